pub mod Adding
pub mod Acyclic
pub mod Circles
pub mod Moves
pub mod Lasts
pub mod Ordered
