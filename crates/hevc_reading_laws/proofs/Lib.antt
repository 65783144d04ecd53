pub mod FormLaws
pub mod TableLaws
pub mod Spellings
