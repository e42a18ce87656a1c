pub mod Columns
pub mod Filling
pub mod Looking
pub mod Right
pub mod Whole
