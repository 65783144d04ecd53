pub mod Fresh
pub mod Handles
pub mod Numbered
