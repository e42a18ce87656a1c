pub mod Admits
mod NothingGiven
pub mod Breaks
pub mod Goes
pub mod Lasts
pub mod Places
pub mod Wholes
pub mod Levels
mod Known
pub mod Only
mod Walked
pub mod After
pub mod Same
