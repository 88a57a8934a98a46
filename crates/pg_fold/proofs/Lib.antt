mod Common
pub mod Listing
pub mod Positions
pub mod Copies
pub mod BodyImages
pub mod Staying
pub mod Steps
pub mod Originals
pub mod Limits
pub mod MapTables
pub mod Coding
pub mod Singles
