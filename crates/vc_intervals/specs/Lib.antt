pub mod Boundaries
pub mod IntervalsOf
pub mod Listed
pub mod Ranges
pub mod Laws
pub mod Events
pub mod WalkViews
