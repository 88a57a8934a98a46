pub mod Prelude
pub mod Judged
pub mod Connectivity
pub mod SpanPoints
pub mod Vectors
pub mod VectorPoints
pub mod Family
