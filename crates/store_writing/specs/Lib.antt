pub mod Writes
pub mod Ending
