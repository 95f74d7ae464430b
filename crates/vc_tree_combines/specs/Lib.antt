pub mod Meeting
pub mod Ended
pub mod Making
pub mod Stopping
