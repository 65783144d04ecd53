-- A record of the code is the values of its fields: where these are the same, so is the record.
pub mod Common
pub mod SetParts
pub mod VideoSet
pub mod SequenceSet
pub mod PictureSlice
