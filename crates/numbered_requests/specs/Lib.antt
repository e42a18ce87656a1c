pub mod Bodies
pub mod Checked
pub mod Checks
pub mod Directory
pub mod GivenValues
pub mod Replies
