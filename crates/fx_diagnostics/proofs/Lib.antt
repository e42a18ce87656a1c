pub mod Lists
pub mod Pairs
pub mod RecordTypes
pub mod Sought
pub mod Twice
