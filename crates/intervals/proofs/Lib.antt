-- The laws of this crate that others cite.
pub mod IntervalRecord
pub mod RoundTrip
pub mod Sequences
