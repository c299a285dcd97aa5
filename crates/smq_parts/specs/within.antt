-- What only private clauses cite: texts that wait.
pub mod Waiting
