pub mod Cycles
pub mod UsedMembers
pub mod Sizes
pub mod SetSize
