pub mod RecordEquality
