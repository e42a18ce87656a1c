pub mod CommitLemmas
pub mod ShapeLemmas
pub mod RestoreLemmas
pub mod GoLemmas
pub mod RowLemmas
pub mod TellLemmas
pub mod FitLemmas
pub mod EmptyLemmas
