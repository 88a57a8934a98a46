pub mod Claims
pub mod Findings
