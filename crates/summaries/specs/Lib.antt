pub mod Made
pub mod Stored
