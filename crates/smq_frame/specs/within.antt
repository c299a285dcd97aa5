-- What only private clauses cite: a rest as the code keeps it. A reader of the promises needs none of it.
pub mod Parts
