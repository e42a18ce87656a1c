pub mod DecodeLemmas
pub mod OverlaidLemmas
pub mod AskedLemmas
pub mod BodyLemmas
pub mod StayLemmas
