pub mod Causes
pub mod Files
pub mod Console
pub mod Stop
pub mod Reading
pub mod Failing
pub mod Memory
pub mod Terminal
