pub mod Typings
pub mod Taken
pub mod Ordered
pub mod CellTypes
pub mod Given
pub mod Freshness
pub mod FreshAt
