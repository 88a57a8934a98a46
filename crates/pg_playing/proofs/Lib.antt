pub mod Common
pub mod Courses
pub mod Stages
pub mod Dialogues
pub mod Logs
pub mod Runs
pub mod Rows
