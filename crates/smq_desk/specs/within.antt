pub mod Chunks
pub mod Least
pub mod Boards
pub mod Rows
