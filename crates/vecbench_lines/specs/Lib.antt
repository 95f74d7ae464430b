-- What the contracts of the program's lines cite.
pub mod Fault
pub mod Parts
pub mod PartsLeft
pub mod Numbers
pub mod Totals
pub mod Keys
pub mod Shapes
pub mod KeyLists
pub mod Rules
pub mod Changes
pub mod Judged
pub mod Answers
pub mod Served
