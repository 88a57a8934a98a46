mod Common
pub mod Connects
pub mod Counting
pub mod Checking
pub mod SolveLemmas
pub mod ClassLemmas
pub mod TreeSteps
pub mod PartSteps
pub mod PlanLaws
pub mod Keeping
pub mod Opening
pub mod Told
