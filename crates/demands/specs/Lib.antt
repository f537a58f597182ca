pub mod Cuts
pub mod Pairs
