pub mod ListParts
pub mod WeightParts
