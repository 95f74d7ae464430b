pub mod Asking
pub mod CombinedTotals
pub mod Laws
pub mod MappedTotals
pub mod Pointwise
pub mod TotalMap
pub mod Putting
