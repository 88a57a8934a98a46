pub mod OpenLines
pub mod Board
pub mod Words
pub mod Reply
