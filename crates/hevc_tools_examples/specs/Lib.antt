pub mod Added
pub mod Begun
pub mod Extracts
pub mod Runs
pub mod Verdicts
