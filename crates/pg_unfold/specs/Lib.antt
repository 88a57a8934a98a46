pub mod Prelude
pub mod Copies
pub mod Flaw
pub mod Flaws
pub mod Unfolded
pub mod Marks
pub mod Gathered
pub mod Layouts
