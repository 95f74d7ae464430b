pub mod Keeping
pub mod KeepingValues
pub mod Pairs
pub mod Putting
pub mod Stages
