pub mod Segments
pub mod Shortened
pub mod Stands
