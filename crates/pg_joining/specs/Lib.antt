pub mod Prelude
pub mod Plans
pub mod Telling
pub mod Joins
