pub mod Coinciding
pub mod Lanes
pub mod Meant
pub mod Places
pub mod Placing
pub mod Soundness
pub mod Strides
pub mod Writing
