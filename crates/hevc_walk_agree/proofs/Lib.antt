pub mod Joined
pub mod Moment
pub mod Cuts
pub mod Dropped
pub mod Full
pub mod Ends
pub mod Order
