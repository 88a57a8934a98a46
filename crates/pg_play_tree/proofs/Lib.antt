pub mod Again
pub mod Meeting
pub mod Choosing
pub mod Mirrors
pub mod Bodies
pub mod Within
