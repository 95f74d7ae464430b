pub mod Block
pub mod Builder
pub mod BuilderLends
pub mod Places
pub mod PlacesLend
