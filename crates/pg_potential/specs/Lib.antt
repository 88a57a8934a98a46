pub mod Prelude
pub mod Marks
pub mod Masks
