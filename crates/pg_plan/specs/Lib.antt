pub mod Prelude
pub mod Places
pub mod Print
pub mod PlanFile
pub mod Faults
pub mod Views
pub mod Names
