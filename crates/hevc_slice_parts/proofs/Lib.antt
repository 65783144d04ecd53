pub mod Logarithms
pub mod Ranges
