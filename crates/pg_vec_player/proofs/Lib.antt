mod Common
pub mod VecSteps
pub mod Keeping
pub mod Opening
pub mod JudgeLemmas
pub mod MoveLemmas
