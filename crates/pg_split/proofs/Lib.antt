pub mod Planned
pub mod Pieces
pub mod Checked
