-- The laws of this crate that others cite.
pub mod Meeting
pub mod Marking
pub mod Products
