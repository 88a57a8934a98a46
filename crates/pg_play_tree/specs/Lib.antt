pub mod Prelude
pub mod Lines
pub mod Tree
pub mod Places
pub mod Unplayed
