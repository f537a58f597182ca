-- The laws of this crate that others cite.
pub mod Joining
pub mod Counting
pub mod Spanning
pub mod Deciding
pub mod Tallying
pub mod Reading
pub mod Keeping
pub mod Fitting
pub mod Serving
pub mod Bounding
