pub mod Kept
pub mod ReadBack
pub mod PrintedBoards
pub mod PrintedLines
