pub mod Blanks
pub mod Literals
pub mod Named
pub mod Steps
pub mod RowSteps
pub mod Gives
pub mod GroupNames
pub mod InTurn
