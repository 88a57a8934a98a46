pub mod Prelude
pub mod Heads
pub mod Judged
