-- What private clauses alone cite; a reader of the contracts can pass it over.
pub mod Parts
pub mod Views
