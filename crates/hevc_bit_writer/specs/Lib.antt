pub mod Writing
pub mod WrittenUnits
