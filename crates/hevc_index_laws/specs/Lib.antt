pub mod SplicedUnits
pub mod Begun
pub mod Points
