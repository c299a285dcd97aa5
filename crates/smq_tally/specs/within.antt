-- What only private clauses cite: maps and lists as the code keeps them. A reader of the promises needs none of it.
pub mod Counting
pub mod KeyOrder
pub mod ListOrder
pub mod CountOrder
pub mod Equal
pub mod Kept
pub mod Keys
pub mod RowCounts
pub mod Noted
