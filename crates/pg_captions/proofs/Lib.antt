mod Common
pub mod Lightest
pub mod Short
mod Below
