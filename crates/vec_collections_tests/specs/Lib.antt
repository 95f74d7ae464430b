pub mod Tags
pub mod Changes
pub mod Stock
pub mod Overlays
pub mod Names
pub mod Directories
