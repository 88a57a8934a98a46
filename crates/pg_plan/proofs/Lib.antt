mod Common
pub mod Words
pub mod WordFaults
pub mod FirstFault
pub mod Ranges
pub mod PrintedLines
pub mod ReadBack
