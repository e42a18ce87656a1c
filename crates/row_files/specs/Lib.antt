pub mod Records
pub mod Pages
pub mod Ends
pub mod Batches
pub mod Laws
