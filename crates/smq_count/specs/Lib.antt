pub mod Columns
pub mod Months
pub mod LocalTime
pub mod Cells
pub mod Counts
pub mod Known
pub mod within
