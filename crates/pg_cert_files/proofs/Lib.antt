mod Common
pub mod Growing
pub mod Stands
pub mod WholeFile
pub mod CertLimits
pub mod PartsBegin
pub mod LeastFaults
pub mod FirstFaults
pub mod Back
pub mod Within
pub mod TextVersion
pub mod ReadsWhole
pub mod NodeSteps
pub mod PairWords
pub mod ShortLines
pub mod ShortTexts
pub mod ShortGathering
