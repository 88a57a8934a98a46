mod Common
mod Walks
pub mod Boards
pub mod LineCounts
mod Scans
mod Attacks
mod Searching
pub mod Passing
pub mod Serving
pub mod Deciding
mod Partners
mod Gains
mod Idle
