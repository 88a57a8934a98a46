pub mod Svg
pub mod Tags
