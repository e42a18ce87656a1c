pub mod Answered
pub mod Places
pub mod Steps
pub mod Writing
pub mod Reading
pub mod PlainStarts
pub mod Told
pub mod ReadBack
