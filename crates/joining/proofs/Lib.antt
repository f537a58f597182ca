-- The laws of this crate that others cite.
pub mod Cut
pub mod Joins
pub mod Judging
