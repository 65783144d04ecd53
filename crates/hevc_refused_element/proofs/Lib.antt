pub mod Skipping
pub mod Fitting
