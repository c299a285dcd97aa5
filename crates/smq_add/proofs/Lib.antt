pub mod KeyLemmas
pub mod NumberLemmas
pub mod RowLemmas
pub mod SumLemmas
pub mod ApartLemmas
