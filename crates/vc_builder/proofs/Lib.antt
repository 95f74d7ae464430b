pub mod PlacesLaid
pub mod PlacesMemory
pub mod WalkNames
