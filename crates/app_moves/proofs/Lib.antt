pub mod Lists
pub mod Apart
pub mod Fits
pub mod Words
pub mod Moved
pub mod Transacted
