pub mod Units
pub mod Left
pub mod Iterated
