mod Common
pub mod PairLoops
pub mod Filters
pub mod OpenPairs
pub mod LeftOut
pub mod AnswerLaws
pub mod PairLaws
pub mod PartnerSteps
