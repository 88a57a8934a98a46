pub mod Needs
pub mod Pieces
pub mod Brought
