pub mod Marked
pub mod Stretch
