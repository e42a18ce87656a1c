pub mod Counted
pub mod Pushed
pub mod Bodies
