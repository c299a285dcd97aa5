-- What only private clauses cite.
pub mod Jobs
pub mod Words
pub mod Plays
pub mod Steps
