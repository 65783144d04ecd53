pub mod Sequences
pub mod Headers
