-- The laws of this crate that others cite.
pub mod Gathering
pub mod Segments
