-- Lemmas, by room.
pub mod edits
pub mod index
