pub mod Counts
pub mod Sample
pub mod Summary
