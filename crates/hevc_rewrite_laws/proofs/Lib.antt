pub mod SameMeanings
pub mod AllWanted
pub mod Sequences
