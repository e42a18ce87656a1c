pub mod Acts
pub mod Changes
