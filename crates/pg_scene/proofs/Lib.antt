mod Common
pub mod Growing
pub mod Matching
pub mod Within
pub mod ReadBack
pub mod Scaled
pub mod Named
pub mod SpanWithin
pub mod VectorWithin
pub mod Lanes
