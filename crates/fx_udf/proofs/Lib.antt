pub mod Expansions
pub mod Falls
pub mod Numbered
