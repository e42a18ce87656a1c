pub mod Floats
mod JsonLemmas
mod Quotes
