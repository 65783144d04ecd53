pub mod Keeping
pub mod Named
pub mod Lent
mod Active
