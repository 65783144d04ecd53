pub mod PpsKeeps
pub mod Named
