mod Chaining
mod Noting
mod Obeying
