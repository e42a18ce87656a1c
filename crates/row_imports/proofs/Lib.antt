pub mod Rows
pub mod Rules
pub mod Repeats
pub mod OneType
pub mod Found
pub mod Acting
pub mod CellLists
pub mod Folding
