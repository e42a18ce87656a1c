pub mod PutLemmas
pub mod TableLemmas
pub mod RuleLemmas
