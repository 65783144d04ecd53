pub mod Telling
pub mod Kept
pub mod Scan
pub mod Reads
pub mod Naming
pub mod Growing
pub mod Sets
pub mod Words
