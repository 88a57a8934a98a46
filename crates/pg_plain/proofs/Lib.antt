mod Common
pub mod MovesFrom
pub mod BestPlay
pub mod ClassLaws
pub mod LeafLaws
pub mod NearLines
pub mod ThreatSearches
pub mod PairSearches
pub mod CriteriaLaws
pub mod SettleSteps
