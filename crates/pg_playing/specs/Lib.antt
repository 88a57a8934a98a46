pub mod Prelude
pub mod Notes
pub mod Dialogue
pub mod Screens
pub mod TableLog
pub mod Seated
pub mod Courses
pub mod Playing
