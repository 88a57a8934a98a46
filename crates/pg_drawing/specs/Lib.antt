pub mod Prelude
pub mod Orders
pub mod Boards
pub mod Incoming
pub mod Due
pub mod Runs
