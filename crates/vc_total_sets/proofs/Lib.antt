mod Formulas
mod Tested
mod OneTotal
