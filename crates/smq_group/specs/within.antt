-- What only private clauses cite: members as the code keeps them. A reader of the promises needs none of it.
pub mod Orders
pub mod KeyLaws
pub mod Outlooks
pub mod Walked
pub mod Stored
pub mod Told
