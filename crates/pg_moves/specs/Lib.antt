pub mod Prelude
pub mod Trials
pub mod Best
pub mod Lines
pub mod JsonLines
pub mod MoveRuns
