-- What only private clauses cite: a row as the code keeps it. A reader of the promises needs none of it.
pub mod Runs
