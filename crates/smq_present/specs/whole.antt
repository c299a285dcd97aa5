-- The tables of what is present, from nothing.
pub mod Scratch
pub mod Links
pub mod Dealt
