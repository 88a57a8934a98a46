pub mod Prelude
pub mod Folded
pub mod Places
pub mod Symmetry
pub mod Tables
pub mod Codes
