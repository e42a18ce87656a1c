pub mod Fine
pub mod Lists
pub mod Objects
pub mod Counting
pub mod Properties
pub mod Controls
pub mod Told
pub mod Verdicts
