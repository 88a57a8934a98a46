mod Common
pub mod Cuts
pub mod Digits
pub mod Decimals
pub mod PlainWords
pub mod Reading
pub mod Rising
pub mod FirstLine
