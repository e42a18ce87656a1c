pub mod Answers
pub mod Caches
pub mod Costs
pub mod Editing
pub mod Isolation
pub mod Leaving
pub mod NamedReply
pub mod Ready
pub mod Refused
pub mod Sessions
pub mod Settled
pub mod State
pub mod Step
pub use Rattle.app_loader.specs as app_loader
pub mod DeskEdits
pub mod DeskEditLaws
pub use Rattle.app_loader.specs.app_semantics
pub use Rattle.session_requests.specs as session_requests
pub mod Rooms
pub mod Replacing
pub mod Served
