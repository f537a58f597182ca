pub mod Seen
pub mod Tally
pub mod Report
pub mod Bounds
