pub mod ListKeeps
pub mod WeightKeeps
