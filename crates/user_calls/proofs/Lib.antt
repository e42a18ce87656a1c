pub mod Places
pub mod Carrying
pub mod Arranging
pub mod Law
