pub mod Places
pub mod Among
pub mod Listing
pub mod Agreeing
pub mod Raising
pub mod Emptying
pub mod Stepping
pub mod Leaving
pub mod Setting
pub mod Touching
pub mod Freshening
pub mod Marking
pub mod Turns
pub mod Cleared
pub mod Functions
pub mod Parts
pub mod Finding
pub mod OldTrees
pub mod OldValues
pub mod OldCells
pub mod Filled
pub mod Filling
pub mod Asked
pub mod Evaluated
pub mod Kept
pub mod RowTellings
pub mod Selecting
pub mod Tableless
pub mod Tellings
pub mod ForItems
pub mod Wholes
pub use Rattle.fx_eval.proofs as of_fx_eval
pub use Rattle.app_semantics.proofs as of_app_semantics
pub use Rattle.fx_semantics.proofs as of_fx_semantics
pub mod CellVisits
pub mod OneNumber
