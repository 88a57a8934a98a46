pub mod Elements
pub mod Chapters
pub mod Layouts
pub mod Words
pub mod Origins
pub mod Pictures
pub mod Reading
