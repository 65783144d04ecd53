pub mod Decoders
pub mod Events
pub mod Flushes
pub mod Refusals
pub mod States
pub mod Segments
pub mod Steps
pub mod Views
