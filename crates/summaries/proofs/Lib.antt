-- The laws of this crate that others cite.
pub mod InField
pub mod Made
pub mod Placing
pub mod RoundTrip
pub mod Validity
