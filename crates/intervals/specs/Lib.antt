pub mod Interval
pub mod Sequence
