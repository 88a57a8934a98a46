pub mod Prelude
pub mod Sitting
pub mod Fits
