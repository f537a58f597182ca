pub mod Continuing
pub mod Fractions
pub mod Labelling
pub mod Reaching
pub mod Settling
pub mod Windows
