-- The laws of this crate that others cite.
pub mod Defined
pub mod Going
pub mod Places
