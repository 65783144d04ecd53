pub mod Groups
pub mod Made
pub mod Slices
