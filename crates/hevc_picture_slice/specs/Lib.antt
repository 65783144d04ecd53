pub mod Pps
pub mod SliceHeader
