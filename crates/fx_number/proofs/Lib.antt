pub mod Decimals
pub mod Powers
pub mod Digits
pub mod LeftToRight
pub mod Written
