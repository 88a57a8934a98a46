pub mod Prelude
pub mod Results
pub mod Ending
pub mod GameRuns
