mod Common
pub mod ValidNodes
pub mod Spreading
pub mod Closing
pub mod TableLaws
pub mod Searching
pub mod Settling
pub mod Claiming
pub mod Expanding
pub mod Moving
pub mod Descending
