pub mod Between
pub mod Stretches
