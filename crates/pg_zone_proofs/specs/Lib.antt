pub mod Prelude
pub mod Drafted
pub mod Settled
