pub mod ListLaws
pub mod MemberLaws
pub mod CountLaws
pub mod MarkingLaws
pub mod DeriveLaws
