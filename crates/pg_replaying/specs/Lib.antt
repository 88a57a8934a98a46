pub mod Prelude
pub mod Records
pub mod Due
pub mod Runs
