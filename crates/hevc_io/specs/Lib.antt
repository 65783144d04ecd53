pub mod Memory
pub mod Prefix
pub mod Standard
pub mod Stops
pub mod Writes
pub mod Words
