-- What only private clauses cite: what is searched as the code keeps it. A reader of the promises needs none of it.
pub mod Marks
