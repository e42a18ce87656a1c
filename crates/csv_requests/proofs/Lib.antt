pub mod Names
pub mod Pages
pub mod Whole
pub mod GoingIn
