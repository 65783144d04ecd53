pub mod UnitMeans
pub mod KeptWell
