pub mod Heads
pub mod StandSteps
pub mod Counts
pub mod Exits
pub mod Fields
pub mod Kept
pub mod Walks
pub mod FieldTypes
