pub mod Kept
pub mod Changes
pub mod Clearing
pub mod Needing
pub mod Steps
pub mod Visits
pub mod ItemVisits
pub mod Outcomes
pub mod Carrying
pub mod Filling
pub mod Holds
pub mod Reading
pub mod Queries
pub mod Stops
pub mod Values
pub mod Templates
pub mod Schemas
pub mod Asking
pub mod AskingOver
pub use Rattle.app_semantics.specs.app_cells
pub use Rattle.app_semantics.specs as app_semantics
pub use Rattle.fx_eval.specs as fx_eval
pub use Rattle.fx_semantics.specs as fx_semantics
