-- Lemmas of pairs, of messages and receipts by place, and of notes.
pub mod PlacesRise
pub mod SessionTraffic
pub mod Requests
pub mod Searched
pub mod Paired
pub mod Members
pub mod SessionNotes
pub mod UnreadPlaces
pub mod PairLemmas
pub mod PushLemmas
pub mod KnownNotes
pub mod PairsStay
pub mod PairsTaken
pub mod NotesTaken
pub mod TurnLemmas
pub mod SideLemmas
pub mod PushedMessages
