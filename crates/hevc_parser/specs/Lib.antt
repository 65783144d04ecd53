pub mod Answers
pub mod OwnIds
pub mod Kept
pub mod Lending
pub mod Slices
pub mod Telling
