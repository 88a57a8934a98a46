pub mod Prelude
pub mod Choices
pub mod Words
pub mod Points
pub mod VersusLog
pub mod Versus
