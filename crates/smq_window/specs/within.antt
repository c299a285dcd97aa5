-- What only private clauses cite: what waits, as the code keeps it. A reader of the promises needs none of it.
pub mod Waiting
pub mod Kept
pub mod Shown
pub mod Standing
