pub mod Children
pub mod Places
pub mod Parting
pub mod Growth
pub mod SameTests
pub mod Ascending
pub mod Prefix
pub mod Body
