-- What only private clauses cite: the log of changes, and laws of keys. A reader of the promises needs none of it.
pub mod Undoing
pub mod KeyLaws
