pub mod Prelude
pub mod Shapes
pub mod Sheets
pub mod Pictures
pub mod Laws
