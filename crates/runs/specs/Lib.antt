pub mod Figures
pub mod Runs
pub mod Middles
pub mod Sound
pub mod Valid
