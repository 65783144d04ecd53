pub mod Palettes
pub mod PpsRangeExtensionKeeps
pub mod PpsSccExtensionKeeps
pub mod SpsSccExtensionKeeps
pub mod Extensions
