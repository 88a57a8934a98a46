mod Common
pub mod Odd
pub mod NodeLimits
pub mod OnlyNumbers
pub mod Words
pub mod NodeBack
pub mod DigitRuns
mod NearCuts
pub mod Gathering
pub mod Outlines
