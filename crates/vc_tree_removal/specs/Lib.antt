pub mod Without
pub mod Taking
pub mod Changing
