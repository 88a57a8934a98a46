mod Common
pub mod Openings
pub mod Judging
pub mod Commands
pub mod Spans
pub mod SpanRanges
pub mod OnVectors
pub mod Announced
pub mod Forced
