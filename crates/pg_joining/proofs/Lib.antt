mod Common
pub mod PlanFiles
pub mod Ends
pub mod Runs
pub mod Values
