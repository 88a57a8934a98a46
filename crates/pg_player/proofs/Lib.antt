mod Common
pub mod Stable
pub mod Plays
pub mod Beside
pub mod Settling
pub mod Arriving
pub mod Keeping
pub mod Replying
pub mod Opening
pub mod Going
