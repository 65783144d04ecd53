mod Whole
pub mod Joined
pub mod Found
pub mod Cut
