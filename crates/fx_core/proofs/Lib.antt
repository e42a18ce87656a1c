pub mod Ordered
pub mod Doubling
pub mod Parts
mod Placed
pub mod Spelled
