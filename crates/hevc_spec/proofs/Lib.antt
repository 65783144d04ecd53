pub mod UnitLaws
pub mod PlaceLaws
pub mod Repeats
pub mod BitSteps
pub mod LowBits
