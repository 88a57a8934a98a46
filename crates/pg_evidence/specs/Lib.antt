pub mod Prelude
pub mod Evidence
pub mod Standing
pub mod Verdicts
pub mod Incoming
pub mod Arriving
pub mod Feeding
