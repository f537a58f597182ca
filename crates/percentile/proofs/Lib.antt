-- The laws of this crate that others cite.
pub mod Between
pub mod Buckets
pub mod Counts
pub mod Gather
pub mod Percentile
pub mod Place
pub mod Sample
pub mod Survey
