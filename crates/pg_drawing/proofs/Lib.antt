mod Common
pub mod Openings
pub mod Coming
pub mod Alike
pub mod Nodes
pub mod Causes
pub mod Found
pub mod Endings
