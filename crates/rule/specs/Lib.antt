pub mod Evaluator
pub mod Labels
pub mod Marks
