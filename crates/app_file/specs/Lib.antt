pub mod Forms
pub mod Paths
pub mod FormOfApp
pub mod Keys
pub mod Contents
pub mod Readings
pub mod Limits
pub mod Files
