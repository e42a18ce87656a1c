pub mod Risings
pub mod Sizes
pub mod Texts
pub mod Utf8Order
pub mod CivilDays
