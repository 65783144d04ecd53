pub mod ControlLaws
pub mod QueueLaws
