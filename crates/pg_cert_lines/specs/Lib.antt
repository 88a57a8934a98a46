pub mod Prelude
pub mod Views
pub mod Form
pub mod NodeLine
pub mod ClaimLine
pub mod Numerals
pub mod Outline
