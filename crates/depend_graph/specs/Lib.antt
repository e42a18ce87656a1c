pub mod Order
pub mod Ends
pub mod Lists
pub mod Turning
pub mod Search
