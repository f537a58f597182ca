-- The laws of this crate that belong to no one function.
pub mod Faults
