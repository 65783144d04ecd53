pub mod Numbers
pub mod Accepted
pub mod Counts
pub mod Fates
pub mod Submitted
