mod Common
pub mod RowLemmas
pub mod EliminationLemmas
pub mod GroundLemmas
pub mod ClassLemmas
pub mod SpanTests
pub mod ConditionLemmas
pub mod VectorConditions
pub mod ClaimLemmas
pub mod LawLemmas
pub mod Lowest
pub mod VecClaims
