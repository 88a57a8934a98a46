mod Common
pub mod Opened
pub mod Found
pub mod Endings
