pub mod Decoded
pub mod Ends
pub mod Model
pub mod Steady
pub mod Going
pub mod Laws
