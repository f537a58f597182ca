pub mod Circuits
pub mod Three
