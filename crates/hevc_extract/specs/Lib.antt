pub mod Extracting
pub mod Alike
pub mod Targets
pub mod Written
