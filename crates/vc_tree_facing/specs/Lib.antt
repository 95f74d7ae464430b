pub mod Sides
pub mod Facing
pub mod Made
pub mod Doing
pub mod Seeking
pub mod Lessening
