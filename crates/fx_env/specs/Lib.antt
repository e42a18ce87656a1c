pub mod Scopes
pub mod Telling
pub mod Queries
