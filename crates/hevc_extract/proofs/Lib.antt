pub mod Held
pub mod Alike
mod Answers
mod Taking
mod Writing
