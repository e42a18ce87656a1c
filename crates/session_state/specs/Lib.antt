pub mod Once
pub mod Sessions
pub mod Changes
pub mod Carrying
pub mod CarriedOver
