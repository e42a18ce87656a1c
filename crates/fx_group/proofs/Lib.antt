pub mod Back
pub mod Bytes
pub mod FirstErrors
pub mod Firsts
pub mod Grouped
pub mod JoinedSteps
pub mod Records
pub mod Steps
