pub mod AskedLemmas
pub mod RowLemmas
