pub mod Flags
pub mod Plain
pub mod Scan
pub mod Waiting
