pub mod Prelude
pub mod Books
pub mod Due
pub mod Runs
