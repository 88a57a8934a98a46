mod Common
mod Apart
mod Chords
mod Layouts
pub mod Circles
