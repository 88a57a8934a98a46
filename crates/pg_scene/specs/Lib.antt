pub mod Prelude
pub mod Limits
pub mod Items
pub mod Scenes
pub mod Read
pub mod SpanScenes
pub mod VectorScenes
pub mod Recorded
