pub mod Prelude
pub mod Budgets
pub mod Findings
pub mod JsonLines
pub mod Outputs
pub mod Settling
pub mod Runs
