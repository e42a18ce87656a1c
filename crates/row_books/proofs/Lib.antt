mod BagLoops
mod BookLemmas
pub mod Places
