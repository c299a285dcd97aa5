-- What only private clauses and the law of agreement cite: maps and lists as the code keeps them. A reader of the
-- promises needs none of it.
pub mod InOrder
pub mod Contents
pub mod Pairs
pub mod Messages
pub mod Receipts
pub mod Accepted
pub mod Outcomes
pub mod Listings
pub mod EqualBatches
pub mod Equal
pub mod Lists
pub mod Turns
pub mod Sides
pub mod Sourced
pub mod Said
