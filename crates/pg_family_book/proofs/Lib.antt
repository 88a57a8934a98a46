pub mod Wholes
pub mod Scenes
