pub mod Loops
pub mod Whole
pub mod Cells
pub mod Found
pub mod Again
pub mod Steps
pub mod Back
