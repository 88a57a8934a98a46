pub mod Texts
pub mod Looking
pub mod Prepared
pub mod SplitFiles
pub mod SplitRuns
