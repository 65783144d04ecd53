pub mod Trimmed
pub mod OneUnit
pub mod Tried
pub mod Meant
pub mod PictureSets
pub mod SliceHeaders
