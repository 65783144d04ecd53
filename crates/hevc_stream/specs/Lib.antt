pub mod Options
pub mod Kept
pub mod Slices
pub mod Contents
pub mod Stream
