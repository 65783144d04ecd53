pub mod SpsParts
