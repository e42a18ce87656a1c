pub mod Chosen
pub mod Present
pub mod Telling
pub mod Holding
pub mod Properties
pub mod Fresh
pub mod Needed
pub mod Sound
pub mod Laws
pub use Rattle.app_cells.specs as app_cells
