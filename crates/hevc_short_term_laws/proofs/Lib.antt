pub mod OrderLaws
pub mod LinedUp
pub mod Listed
pub mod FilledArrays
pub mod Parts
