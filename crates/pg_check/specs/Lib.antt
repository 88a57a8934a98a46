pub mod Prelude
pub mod Tester
pub mod Lacked
pub mod Present
pub mod Checking
pub mod Rounds
