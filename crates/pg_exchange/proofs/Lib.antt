mod Common
pub mod Tests
pub mod SearchSteps
pub mod ShiftLemmas
pub mod TreeLemmas
pub mod SearchLemmas
pub mod SettleLemmas
pub mod CircuitLemmas
pub mod ForestLemmas
pub mod ReachLemmas
pub mod PathLemmas
pub mod Contraction
pub mod ClimbLemmas
pub mod StarLemmas
pub mod LevelLemmas
