pub mod Behind
pub mod Formulas
pub mod Innermost
pub mod Planned
pub mod Spelled
