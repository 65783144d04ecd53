pub mod Standings
pub mod Raised
pub mod Submissions
