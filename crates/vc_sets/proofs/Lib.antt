pub mod Selected
pub mod Combined
pub mod Searching
pub mod Clones
pub mod Editing
pub mod Parted
pub mod Witnessed
pub mod Sifted
mod OneSet
pub mod Removing
pub mod ByForm
pub mod Shorter
mod ByHeads
pub mod Collected
