pub mod Again
pub mod Directories
pub mod JsonValues
pub mod Refusals
