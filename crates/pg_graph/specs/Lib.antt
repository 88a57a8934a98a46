pub mod Prelude
pub mod Walks
pub mod Span
pub mod Graph
pub mod Joiner
pub mod Roots
pub mod Labels
