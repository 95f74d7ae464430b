pub mod Going
pub mod Reaching
pub mod Parting
pub mod Putting
mod Writing
mod Staying
