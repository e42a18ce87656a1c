pub mod Judged
pub mod Verdicts
pub mod Edits
pub mod Cells
pub mod Written
pub mod Admitted
pub mod Types
pub mod Infos
pub mod Supports
pub mod Cycles
pub mod JudgedFormulas
pub mod Accepted
-- what is said of edits and of soundness stands in the contracts of loading, so it is passed on
pub use Rattle.app_texts.specs as app_texts
pub use Rattle.app_semantics.specs as app_semantics
