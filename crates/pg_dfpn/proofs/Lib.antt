pub mod Replying
pub mod Within
