pub mod Parts
pub mod Stopped
pub mod Taking
pub mod Numbers
pub mod Telling
pub mod Whole
