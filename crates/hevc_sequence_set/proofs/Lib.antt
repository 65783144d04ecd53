pub mod RecordEquality
pub mod SpsLemmas
