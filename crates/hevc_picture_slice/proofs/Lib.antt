pub mod RecordEquality
pub mod SliceTypeEquality
