pub mod Declarations
pub mod Tops
pub mod AppNames
pub mod NameRules
pub mod Decided
