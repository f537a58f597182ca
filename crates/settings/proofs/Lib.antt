-- The laws of this crate that others cite.
pub mod RoundTrip
pub mod SettingsRecord
