pub mod VpsParts
