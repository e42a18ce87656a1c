pub mod TextLemmas
pub mod Places
pub mod Replacing
mod MonthLemmas
mod DateTextLemmas
pub mod FoldLemmas
pub mod Rounding
