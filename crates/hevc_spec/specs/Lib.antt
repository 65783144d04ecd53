pub mod Units
pub mod UnitHeader
pub mod Bits
pub mod Payload
pub mod Table
pub mod Rows
pub mod Lines
pub mod UnitTypes
