pub mod Stores
pub mod Capped
