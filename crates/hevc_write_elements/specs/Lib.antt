pub mod Choices
pub mod Filling
pub mod Deciding
