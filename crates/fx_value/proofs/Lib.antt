mod KeyLemmas
mod Orders
pub mod ByteOrder
pub mod Coercions
pub mod FitsLemmas
pub mod JoinSteps
pub mod SameLemmas
pub mod Unions
pub mod WideningSteps
pub mod Widenings
pub mod RowOrders
pub mod FieldValues
