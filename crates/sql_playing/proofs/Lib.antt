pub mod HoldLemmas
pub mod PlayLemmas
pub mod RunLemmas
pub mod RefusalLemmas
