pub mod Predictions
