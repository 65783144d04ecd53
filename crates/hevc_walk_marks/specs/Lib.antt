pub mod Marked
pub mod Listed
