pub mod Coinciding
pub mod Following
pub mod Places
pub mod Words
