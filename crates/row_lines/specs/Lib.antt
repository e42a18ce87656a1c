pub mod Bodies
pub mod FromBytes
pub mod Laws
