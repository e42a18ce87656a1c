pub mod Graph
pub mod Plans
