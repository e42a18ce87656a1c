pub mod OverlayLemmas
pub mod MoveLemmas
pub mod ChangeLemmas
pub mod LineLemmas
