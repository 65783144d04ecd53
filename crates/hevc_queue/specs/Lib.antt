pub mod Controls
pub mod Events
pub mod Given
pub mod Queue
pub mod QueueCode
