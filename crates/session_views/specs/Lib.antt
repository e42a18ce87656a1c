pub mod Looking
pub mod Bounds
pub mod Views
pub mod Visits
pub mod Galleries
pub mod Ready
pub mod Shows
pub mod Laws
pub use Rattle.recalc.specs as recalc
