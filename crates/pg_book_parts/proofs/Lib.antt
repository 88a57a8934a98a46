pub mod Steps
pub mod Before
pub mod Parts
pub mod Shown
