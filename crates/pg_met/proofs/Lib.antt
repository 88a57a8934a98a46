mod Common
pub mod ByMoves
pub mod SettleLaws
pub mod KnownLemmas
pub mod Showing
pub mod Growing
pub mod Foretold
pub mod Meeting
