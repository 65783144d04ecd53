pub mod HrdKeeps
pub mod LayerKeeps
pub mod Orderings
pub mod ProfileKeeps
pub mod VuiKeeps
