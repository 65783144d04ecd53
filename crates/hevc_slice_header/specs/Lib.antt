pub mod ActiveSets
pub mod Answers
pub mod CurrentSet
pub mod Kept
pub mod Lists
pub mod Weights
