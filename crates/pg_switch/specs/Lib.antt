pub mod Prelude
pub mod Parts
pub mod Replies
pub mod Claims
pub mod Seat
pub mod Span
