mod Common
pub mod Speaking
pub mod Talking
pub mod Dialogues
pub mod Turns
pub mod Openings
pub mod Runs
pub mod Plays
pub mod Players
pub mod Delivering
pub mod Parts
pub mod GameOpenings
