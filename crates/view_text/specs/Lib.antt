pub mod Refusals
pub mod Statuses
pub mod JsonText
pub mod PlainText
pub mod RefusalText
pub mod ReplyText
pub mod ViewText
