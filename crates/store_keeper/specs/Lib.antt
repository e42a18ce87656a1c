pub mod Kept
pub mod Calls
pub mod Seats
pub mod Acting
