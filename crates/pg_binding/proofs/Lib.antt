mod Common
pub mod Found
pub mod Causes
pub mod Statuses
