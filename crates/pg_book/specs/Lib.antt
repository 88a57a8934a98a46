pub mod Boards
pub mod Scenes
pub mod Showing
pub mod Sentences
pub mod Depths
pub mod Books
pub mod Laws
