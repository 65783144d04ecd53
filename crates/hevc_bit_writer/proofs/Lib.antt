pub mod Escapes
pub mod Found
pub mod Packing
pub mod Spellings
pub mod Writes
