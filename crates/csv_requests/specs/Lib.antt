pub mod Bodies
pub mod Refusals
pub mod Replies
pub mod Transactions
pub mod Prepared
pub mod Laws
