pub mod Covers
pub mod Editing
pub mod Saying
pub mod Taken
pub mod Kids
pub mod Pairs
pub mod Woven
pub mod Appended
