pub mod Percentile
pub mod Ranks
