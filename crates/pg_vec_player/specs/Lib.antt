pub mod Prelude
pub mod Judge
pub mod Player
