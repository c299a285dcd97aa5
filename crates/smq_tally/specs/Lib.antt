pub mod Names
pub mod Lists
pub mod Bands
pub mod Rows
pub mod Tables
pub mod Tally
pub mod Known
pub mod within
