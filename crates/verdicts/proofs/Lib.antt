-- The laws of this crate that belong to no one function.
pub mod Border
pub mod OneLabel
pub mod Splitting
pub mod Taken
pub mod Judging
pub mod FirstRule
pub mod Gathering
pub mod Fitting
pub mod Lines
