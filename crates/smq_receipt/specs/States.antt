-- States of a message (SMPP 3.4, 5.2.28 and appendix B).
use Rattle.std.specs.Prelude.{◌≡◌, ℕ, ◌==◌, Bool, true, false, List, [], ◌∷◌, codes, Option, Some, find}
use Rattle.smq_receipt.specs.Texts.{same_letters}
use Rattle.smq_receipt.specs.declared.message_state.MessageState.{MessageState}
use Rattle.smq_receipt.specs.declared.message_state.MessageState.TheVariants.{Enroute, Delivered, Expired, Deleted, Undeliverable, Accepted, Unknown, Rejected}

-- what is said of a state: its number in message_state, its word in a text, and whether no other state follows it
pub record StateRow : Type 0 where
  pub number : ℕ
  pub word : List ℕ
  pub final : Bool

-- the table of states
abbrev pub row_of : MessageState → StateRow
row_of Enroute = record { number = 1; word = codes "ENROUTE"; final = false }
row_of Delivered = record { number = 2; word = codes "DELIVRD"; final = true }
row_of Expired = record { number = 3; word = codes "EXPIRED"; final = true }
row_of Deleted = record { number = 4; word = codes "DELETED"; final = true }
row_of Undeliverable = record { number = 5; word = codes "UNDELIV"; final = true }
row_of Accepted = record { number = 6; word = codes "ACCEPTD"; final = false }
row_of Unknown = record { number = 7; word = codes "UNKNOWN"; final = true }
row_of Rejected = record { number = 8; word = codes "REJECTD"; final = true }

-- the states, in the order of their numbers
abbrev pub states : List MessageState
states = Enroute ∷ Delivered ∷ Expired ∷ Deleted ∷ Undeliverable ∷ Accepted ∷ Unknown ∷ Rejected ∷ []

-- the state of a number
unfoldable pub state_of_number : ℕ → Option MessageState
state_of_number number = find (λ state. (row_of state).number == number) states

-- the state of a word, in any ASCII letter case
unfoldable pub state_of_word : List ℕ → Option MessageState
state_of_word word = find (λ state. same_letters word (row_of state).word) states

-- Each state is found by its number and by its word, and what is found has that number and that word.
pub record StatesAreTheTable : Type 0 where
  pub by_number : (state : MessageState) → state_of_number (row_of state).number ≡ Some state
  pub numbered : (number : ℕ) (state : MessageState) → state_of_number number ≡ Some state
      → (row_of state).number ≡ number
  pub by_word : (state : MessageState) → state_of_word (row_of state).word ≡ Some state
  pub worded : (word : List ℕ) (state : MessageState) → state_of_word word ≡ Some state
      → same_letters word (row_of state).word ≡ true
