-- What an edit reaches: the places outside which it changes nothing, and what it takes out and puts in there.
pub mod Reached
pub mod Withdrawn
pub mod Appended
pub mod AppendedNotes
pub mod InTurn
pub mod Reach
pub mod Told
