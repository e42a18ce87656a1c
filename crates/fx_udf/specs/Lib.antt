pub mod Calling
pub mod Expanding
pub mod Ends
pub mod Laws
