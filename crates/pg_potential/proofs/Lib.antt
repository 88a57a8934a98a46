mod Common
pub mod AvoiderLaws
pub mod FlatMarks
pub mod GreatestWeight
pub mod Least
pub mod LineMasks
mod MaskWeights
pub mod PotentialLaws
pub mod Raised
mod RowsApart
pub mod RowsWithin
