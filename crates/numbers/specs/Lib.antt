pub mod Bytes
pub mod Limits
pub mod Many
pub mod Refusals
pub mod Room
pub mod Rules
