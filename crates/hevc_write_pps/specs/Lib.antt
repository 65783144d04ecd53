pub mod PpsParts
