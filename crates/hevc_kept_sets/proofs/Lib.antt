pub mod CutAgain
pub mod Named
pub mod ReadUnits
pub mod SetIds
pub mod Again
pub mod Waiting
pub mod Sets
