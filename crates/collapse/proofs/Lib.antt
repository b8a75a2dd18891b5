pub mod Cases
pub mod Fitting
pub mod Turns
