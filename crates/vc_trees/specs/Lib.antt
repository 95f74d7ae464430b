pub mod Exact
pub mod Commanded
pub mod RetainedPairs
