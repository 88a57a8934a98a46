mod Common
pub mod FirstLines
pub mod Coming
pub mod Tracing
pub mod Judged
pub mod Feeding
pub mod SameImages
pub mod SameUnfoldings
pub mod SameVerdicts
pub mod Keeping
