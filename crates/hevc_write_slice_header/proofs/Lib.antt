pub mod HeaderKeeps
pub mod LongTerm
pub mod Sizes
