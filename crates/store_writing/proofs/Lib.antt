pub mod WriteLemmas
pub mod EndLemmas
