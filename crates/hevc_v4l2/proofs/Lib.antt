pub mod Ranges
pub mod Products
pub mod Shifts
pub mod Sums
pub mod Costs
pub mod LongTermCosts
pub mod Written
