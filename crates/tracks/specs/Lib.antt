pub mod Tracks
pub mod Valid
