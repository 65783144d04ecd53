pub mod Payloads
pub mod Added
pub mod Trials
pub mod Values
pub mod Slices
