mod Common
pub mod Values
pub mod Searching
pub mod EdgeNodes
pub mod Counting
pub mod Finding
