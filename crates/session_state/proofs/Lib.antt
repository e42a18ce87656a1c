pub mod Weights
pub mod Fitting
pub mod Moving
pub mod Carried
pub mod CarriedControls
