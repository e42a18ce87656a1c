pub mod Moves
pub mod Broken
pub mod Refusals
pub mod Places
pub mod Fitting
