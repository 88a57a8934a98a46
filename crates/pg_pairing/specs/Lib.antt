pub mod Prelude
pub mod Taking
pub mod Rest
pub mod Partners
