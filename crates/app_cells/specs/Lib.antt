pub mod Leaning
pub mod Reach
pub mod Spots
