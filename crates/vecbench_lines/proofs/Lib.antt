-- Lemmas on the lines of the program.
mod Cutting
mod Reading
mod Printing
mod Ascending
mod Answering
mod Replying
mod Chunks
mod Joining
mod Members
mod Binding
mod Shaping
mod Ruling
mod Listing
mod Leading
