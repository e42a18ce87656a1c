pub mod Bags
pub mod Entries
pub mod Kept
pub mod Rising
pub mod Sums
