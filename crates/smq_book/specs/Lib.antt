pub mod edits
pub mod index
pub mod known
