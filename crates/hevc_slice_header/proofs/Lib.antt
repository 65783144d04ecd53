pub mod Answered
pub mod Dropped
pub mod PictureSizes
pub mod PartSizes
pub mod HeaderSize
pub mod CurrentSets
