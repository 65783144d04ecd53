pub mod Blocks
pub mod EvenSizes
pub mod Names
pub mod ToldSizes
