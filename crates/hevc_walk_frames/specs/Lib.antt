pub mod Ends
pub mod Frames
pub mod Coming
pub mod Told
