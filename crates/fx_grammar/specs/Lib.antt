pub mod Means
pub mod Grammar
pub mod Formulas
pub mod Reading
pub mod Undoubling
pub mod Meant
