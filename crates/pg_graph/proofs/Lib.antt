mod Common
pub mod WalkLemmas
pub mod Spans
pub mod GraphLemmas
pub mod Crossing
pub mod Swap
pub mod Circuit
pub mod Rank
pub mod Bases
pub mod Classes
pub mod Trees
pub mod Cuts
pub mod EdgeTests
pub mod FreeLemmas
pub mod Growing
mod Bridges
pub mod TreeAnswers
pub mod CutAnswers
mod RootLemmas
mod LabelLemmas
mod StepLemmas
mod ReadLemmas
mod SplitLemmas
