pub mod Functions
pub mod Values
pub mod Events
