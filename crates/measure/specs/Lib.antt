pub mod Measured
pub mod Running
pub mod Outcome
