pub mod Pps
pub mod Profile
pub mod Slice
pub mod Sps
pub mod Vps
pub mod Vui
