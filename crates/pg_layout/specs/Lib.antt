pub mod Prelude
pub mod Layouts
pub mod LayoutFile
pub mod Views
