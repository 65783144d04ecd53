pub mod Shapes
pub mod Coded
