pub mod ArgumentLemmas
pub mod EnteredLemmas
pub mod KnownLemmas
pub mod LevelLemmas
pub mod OrderLemmas
pub mod RuleLemmas
