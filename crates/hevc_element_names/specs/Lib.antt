pub mod Seen
pub mod Names
