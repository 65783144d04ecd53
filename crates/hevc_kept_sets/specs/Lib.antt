pub mod CutUnits
pub mod Kept
pub mod ReadUnits
pub mod Settled
pub mod Takes
