-- What only private clauses cite: the lines of both formats, and pages.
pub mod Layouts
pub mod Pages
