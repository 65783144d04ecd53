mod Rooms
mod Calling
pub mod Coding
mod Flushing
mod Passing
mod Setting
mod Slicing
mod Starting
pub mod Waiting
