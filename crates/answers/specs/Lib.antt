pub mod Lines
pub mod Operations
