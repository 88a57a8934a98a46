mod Common
pub mod Tasks
pub mod Runs
pub mod Plays
pub mod Recorded
pub mod Forced
pub mod Ending
pub mod Accepting
pub mod Reports
pub mod Solves
pub mod Making
pub mod Verdicts
pub mod InTime
pub mod ReportTexts
