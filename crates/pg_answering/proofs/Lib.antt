mod Lengths
mod Sheets
mod Unmeant
