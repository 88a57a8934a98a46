pub mod Prelude
pub mod Places
pub mod Courses
