pub mod Ended
pub mod Names
