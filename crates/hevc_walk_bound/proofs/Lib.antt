pub mod Bound
pub mod Cap
