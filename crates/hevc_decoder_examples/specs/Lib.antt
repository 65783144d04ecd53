pub mod Broken
pub mod Parts
