pub mod ReadBack
pub mod SlicesBack
pub mod Rewritten
pub mod Pieces
pub mod Whole
pub mod Taking
pub mod PictureSteps
