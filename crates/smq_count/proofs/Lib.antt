pub mod Berlin
pub mod MonthLemmas
pub mod Named
pub mod Sums
pub mod Tallied
pub mod Texts
