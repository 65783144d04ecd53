pub mod Entries
pub mod Projections
