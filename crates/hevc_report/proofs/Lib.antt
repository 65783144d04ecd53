pub mod Digits
pub mod Joined
pub mod LineLaws
pub mod Numbers
pub mod Order
pub mod Pieces
pub mod SameLine
pub mod Written
