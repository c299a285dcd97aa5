-- Lemmas of tables from nothing.
pub mod Tallied
pub mod AgreePresent
pub mod ListedTables
pub mod KnownBook
pub mod SplitByLink
pub mod ListsSplitByLink
pub mod DealtByKey
pub mod ListsDealtByKey
pub mod KnownParts
