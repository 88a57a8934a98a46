pub mod Prelude
pub mod Classes
pub mod Attacks
pub mod PairSearch
pub mod Known
