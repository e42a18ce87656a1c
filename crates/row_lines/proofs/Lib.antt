pub mod CellLemmas
pub mod LineLemmas
pub mod PieceLemmas
pub mod SchemaLemmas
