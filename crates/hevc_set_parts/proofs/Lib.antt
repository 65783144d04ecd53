pub mod Equality
pub mod LevelEquality
pub mod RecordEquality
