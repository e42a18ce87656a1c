pub mod ComparedView
pub mod Tables
pub mod Fields
pub mod Lists
pub mod Lowest
