pub mod Orders
pub mod Sides
