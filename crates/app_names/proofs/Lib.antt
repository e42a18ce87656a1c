pub mod Walks
pub mod NameSteps
pub mod BreakSteps
pub mod TwiceSteps
pub mod Screens
pub mod LawfulNames
mod Differing
mod Tested
