pub mod Given
pub mod Laws
pub mod Lists
pub mod TableCalls
pub mod Visits
pub mod Courses
pub mod Demands
pub mod Kinds
pub mod EvalSteps
pub mod MomentsOver
pub mod Parts
pub use Rattle.fx_plan.specs as fx_plan
