pub mod HrdParts
pub mod LayerParts
pub mod GeneralProfile
pub mod ProfileParts
pub mod VuiParts
