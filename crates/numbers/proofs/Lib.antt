-- The laws of this crate that others cite.
pub mod Bounds
pub mod LittleEndian
pub mod Numbers
pub mod Parts
pub mod Products
pub mod Refused
pub mod Rules
pub mod Window
pub mod Words
pub mod Zeros
