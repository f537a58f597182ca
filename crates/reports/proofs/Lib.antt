-- The laws of this crate that others cite.
pub mod Defined
pub mod Judging
pub mod Places
