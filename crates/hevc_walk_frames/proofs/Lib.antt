pub mod Counting
pub mod Ends
pub mod Coming
pub mod Frames
pub mod Balance
