mod Common
pub mod Added
pub mod Decides
pub mod Labels
pub mod Listing
pub mod Lists
pub mod Moves
pub mod Order
