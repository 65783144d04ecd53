pub mod Sequences
pub mod DisplayOrder
pub mod Bounds
pub mod Tests
