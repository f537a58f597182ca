-- The laws of this crate that others cite.
pub mod Pieces
pub mod Sound
pub mod Waiting
pub mod Whole
