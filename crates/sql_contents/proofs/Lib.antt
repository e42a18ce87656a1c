pub mod SortLemmas
pub mod ContentLemmas
