mod Common
mod ReplyLemmas
mod NamedEdges
pub mod ClaimLemmas
pub mod ForcedNodes
mod FirstFaults
mod ThreatTests
mod KnownNodes
mod SoundNodes
mod PartSteps
mod CheckingSteps
mod TakenParts
mod GamePoints
mod RoundSteps
mod RoundLaws
