-- The laws of this crate that others cite.
pub mod Laying
pub mod RoundTrip
pub mod Shifting
pub mod Sizes
pub mod WriteRead
