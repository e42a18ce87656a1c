pub mod AnswerFits
pub mod ArgumentLemmas
pub mod Comparing
pub mod ErrorLemmas
pub mod OneAnswer
pub mod Single
mod TextLemmas
