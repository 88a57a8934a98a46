mod Common
pub mod Recording
pub mod Steps
