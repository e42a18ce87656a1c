pub mod Files
pub mod Texts
pub mod Steps
pub mod Frames
pub mod Places
pub mod Edits
pub mod Numbers
