pub mod Perform
pub mod Actable
pub mod Unique
pub mod Writable
pub mod CutOff
