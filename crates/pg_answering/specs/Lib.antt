pub mod Machine
pub mod Programs
pub mod Drawing
pub mod Solving
pub mod Tasks
pub mod Settling
pub mod Answers
