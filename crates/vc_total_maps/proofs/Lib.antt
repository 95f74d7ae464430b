pub mod Combining
pub mod Comparing
pub mod Copying
pub mod Mapping
pub mod Pointwise
pub mod Put
