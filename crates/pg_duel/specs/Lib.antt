pub mod Prelude
pub mod Words
pub mod Sides
pub mod DuelLog
pub mod Seats
pub mod Dueling
