pub mod ColumnLemmas
pub mod FillLemmas
pub mod FindLemmas
pub mod Holding
pub mod Looks
pub mod Steps
pub mod Telling
