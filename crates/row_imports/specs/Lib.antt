pub mod Imports
pub mod Lines
pub mod Laws
