mod Common
pub mod Parts
pub mod Answering
pub mod Runs
