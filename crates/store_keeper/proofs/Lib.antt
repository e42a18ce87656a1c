pub mod EndLemmas
pub mod EndCalls
pub mod ActCalls
pub mod AskCalls
