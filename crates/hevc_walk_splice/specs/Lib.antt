pub mod Splicing
pub mod Points
