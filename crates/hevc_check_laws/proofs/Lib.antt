pub mod Tells
pub mod Places
pub mod Discarding
pub mod Lowest
pub mod Named
pub mod Whole
pub mod Bounds
pub mod Order
