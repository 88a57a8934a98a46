mod Common
pub mod Sound
