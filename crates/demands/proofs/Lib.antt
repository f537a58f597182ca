pub mod AnyCut
pub mod ThirdDemand
