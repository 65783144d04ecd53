pub mod NewPictureLaws
pub mod Powers
pub mod RecordEquality
