pub mod Overlay
pub mod Moves
