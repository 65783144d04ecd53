pub mod Marks
pub mod Limits
pub mod OrderCounts
pub mod NewPicture
