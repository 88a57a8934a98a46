mod Common
pub mod Standing
pub mod Along
pub mod Boards
pub mod Sessions
pub mod Adding
pub mod FirstFault
pub mod Allowed
pub mod PrintedLines
pub mod ReadBack
