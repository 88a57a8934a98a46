mod Common
pub mod Courses
pub mod SessionLogs
pub mod Refusals
pub mod Sessions
pub mod Records
pub mod LossLaws
pub mod Nodes
pub mod Values
pub mod Standing
pub mod SaidSoFar
pub mod Searched
pub mod Opened
