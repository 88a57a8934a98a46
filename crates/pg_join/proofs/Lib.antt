mod Common
pub mod Tests
pub mod Within
