pub mod Sps
pub mod SpsRangeExtension
pub mod SpsSccExtension
