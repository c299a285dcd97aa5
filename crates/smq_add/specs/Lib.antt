pub mod Numbers
pub mod Rows
pub mod Sums
pub mod Checks
pub mod Apart
pub mod Known
