pub mod Kept
pub mod Taken
pub mod Begun
pub mod Points
pub mod Slices
