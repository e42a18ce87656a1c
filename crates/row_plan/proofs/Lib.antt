pub mod MarkingLemmas
pub mod RunLemmas
pub mod RowLemmas
pub mod TableLemmas
pub mod WrittenLemmas
pub mod StepLemmas
