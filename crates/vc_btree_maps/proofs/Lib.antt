mod Entries
mod Passing
mod Asking
mod Staying
mod Values
mod Giving
