pub mod Prelude
pub mod Player
pub mod Stand
pub mod Rule
pub mod Beside
pub mod InPlay
