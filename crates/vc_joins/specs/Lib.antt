pub mod Answers
pub mod Entries
pub mod Events
pub mod InPlace
pub mod Join
pub mod Laws
pub mod Question
pub mod Values
