pub mod Leaves
pub mod Rules
pub mod Spans
pub mod Vectors
