mod Common
pub mod Keeping
pub mod Standing
pub mod Parts
