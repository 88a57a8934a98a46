mod Common
pub mod Keeping
pub mod Standing
pub mod Tried
pub mod Told
pub mod Unfloating
