pub mod Kept
pub mod Filed
pub mod Opened
pub mod Ran
pub mod Ends
