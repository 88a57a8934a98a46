pub mod Prelude
pub mod GridMaps
pub mod Images
pub mod Rows
