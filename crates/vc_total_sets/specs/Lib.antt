pub mod TotalSet
pub mod Within
pub mod TotalOf
pub mod TotalTests
pub mod Cases
pub mod Laws
