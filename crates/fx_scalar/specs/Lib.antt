pub mod Arguments
pub mod Answers
pub mod Errors
pub mod ScalarFunctions
pub mod LazyForms
pub mod Fitting
pub mod Laws
