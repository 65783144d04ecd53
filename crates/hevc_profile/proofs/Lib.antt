pub mod LevelNumbers
pub mod ArrayPlaces
