pub mod Cached
pub mod FrontHeader
pub mod FoundUnit
pub mod NaluType
pub mod ParsedHeader
pub mod StartCode
pub mod TypeNumbers
pub mod Reading
