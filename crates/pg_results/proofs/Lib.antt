mod Common
pub mod Causes
pub mod Claims
pub mod Counts
pub mod Differing
pub mod FoldedFiles
pub mod GameRuns
