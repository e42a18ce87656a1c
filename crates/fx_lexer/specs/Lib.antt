pub mod Spelling
pub mod Lexed
pub mod Slices
pub mod Scan
pub mod Next
