pub mod Prelude
pub mod Laid
pub mod Telling
