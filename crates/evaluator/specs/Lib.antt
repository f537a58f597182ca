pub mod Evaluators
