pub mod Deciding
pub mod Outside
