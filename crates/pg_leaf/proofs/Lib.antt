mod Common
pub mod FirstCriterion
pub mod ShortCounts
pub mod Foreseeing
mod LiveWalk
mod Taking
mod SmallSetLaws
pub mod Nodes
pub mod KeptNodes
