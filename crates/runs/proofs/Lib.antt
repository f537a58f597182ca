-- The laws of this crate that others cite.
pub mod Adding
pub mod Headroom
pub mod OtherLimits
pub mod Tying
pub mod Placing
pub mod Keeping
pub mod Fitting
