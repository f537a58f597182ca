pub mod Verdicts
pub mod Sets
