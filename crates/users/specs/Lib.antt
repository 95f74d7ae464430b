pub mod Counts
pub mod Files
pub mod Hours
pub mod Path
pub mod Settings
pub mod Tagged
