pub mod Rows
pub mod Nodes
pub mod Members
pub mod Near
pub mod Wholes
