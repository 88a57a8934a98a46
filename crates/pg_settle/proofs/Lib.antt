mod Common
pub mod Headings
pub mod Positions
pub mod LineDelivered
pub mod Settles
pub mod Ending
pub mod Announced
