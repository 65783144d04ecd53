pub mod LengthSizes
pub mod Rows
pub mod Configuration
pub mod Views
pub mod Reading
pub mod Writing
pub mod Held
