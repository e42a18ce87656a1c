pub mod Asked
pub mod Fitting
pub mod Judging
pub mod Lacking
pub mod Texts
pub mod Worked
