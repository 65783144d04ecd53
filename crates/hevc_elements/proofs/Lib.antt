pub mod ScanLaws
pub mod ElementLaws
pub mod Loops
pub mod Meaning
pub mod LongBits
pub mod SetMeaning
pub mod Chains
