pub mod Spans
pub mod Ways
pub mod Backed
