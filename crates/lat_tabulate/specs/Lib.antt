pub mod Fitting
pub mod Lost
