pub mod Streams
pub mod Corners
pub mod OrderStreams
pub mod References
pub mod Changes
pub mod CleanStreams
