pub mod Statements
pub mod Marked
pub mod Plan
pub mod Shown
pub mod Written
