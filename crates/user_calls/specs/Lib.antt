pub mod UserCalls
pub mod Laws
