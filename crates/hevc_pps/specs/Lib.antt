pub mod Answers
pub mod Projections
pub mod Tiling
