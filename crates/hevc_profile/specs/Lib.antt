pub mod Scopes
pub mod LayerProfile
