pub mod Kept
pub mod Told
pub mod Steps
pub mod Flowing
pub mod Chains
pub mod Following
pub mod Counted
