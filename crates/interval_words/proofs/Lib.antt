-- The laws of this crate that others cite.
pub mod Delayed
pub mod Labelled
pub mod Measured
