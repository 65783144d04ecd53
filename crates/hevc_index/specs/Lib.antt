pub mod Indexing
pub mod Finding
pub mod Requests
pub mod Written
