-- Values that laws pin, by room: written out by hand, and what the definitions give for them.
pub mod Present
pub mod Edits
pub mod Pairing
pub mod Kept
pub mod Join
pub mod Whole
pub mod Dealt
