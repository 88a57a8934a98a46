pub mod Prelude
pub mod Asking
pub mod Drafted
pub mod Settled
