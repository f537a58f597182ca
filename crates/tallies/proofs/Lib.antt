pub mod Valid
pub mod Known
