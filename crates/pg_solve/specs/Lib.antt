pub mod Prelude
pub mod Due
pub mod EdgeClaims
pub mod Searched
pub mod Left
pub mod Solved
pub mod Reached
