-- The laws of this crate that others cite.
pub mod Judging
pub mod Taking
pub mod Tallies
pub mod Validity
