pub mod Predictions
pub mod Projections
