pub mod Chosen
pub mod MemberLists
pub mod Tables
pub mod Distinct
