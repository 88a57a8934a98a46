mod Common
pub mod ImageRead
pub mod Whole
pub mod Shadows
pub mod Within
pub mod First
pub mod Back
pub mod Signs
pub mod PairLines
pub mod Drafts
pub mod LinesRead
pub mod ShortReads
pub mod Gatherings
