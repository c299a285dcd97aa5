pub mod RowLemmas
pub mod PlayedLemmas
