pub mod Breaches
pub mod Bounds
pub mod Orders
pub mod Checks
pub mod Streams
