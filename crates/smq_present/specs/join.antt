-- What became of each message, under what is set.
pub mod Keyed
pub mod Circumstances
pub mod Outcomes
pub mod Facts
pub mod Listings
pub mod Lines
pub mod Moves
