-- Lemmas of keys, matching, outcomes and facts.
pub mod AgreeLists
pub mod AgreeFacts
pub mod AgreeListings
pub mod ListedReceipts
pub mod MoveLemmas
pub mod OtherForms
pub mod ReceiptLists
pub mod ReceiptNotes
pub mod SessionLists
pub mod NotedTraffic
pub mod Routed
pub mod Lapsing
pub mod Delays
pub mod KnownFacts
pub mod KnownListings
