-- The definitions that the contracts cite.
pub mod Word
pub mod Written
