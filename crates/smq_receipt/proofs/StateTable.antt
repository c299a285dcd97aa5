-- The table of states, read by number and by word.
use Rattle.std.proofs.Common.{◌≡◌, ℕ, ◌==◌, Bool, true, false, cond, List, [], ◌∷◌, Option, Some, refl, sym, ap, ◌∙◌}
use Rattle.std.specs.List.{find}
use Rattle.std.proofs.lemmas.Bool.Decides.{Decides-eqb}
use Rattle.smq_receipt.specs.Texts.{same_letters}
use Rattle.smq_receipt.specs.States.{row_of, states, state_of_number, state_of_word, StatesAreTheTable}
use Rattle.smq_receipt.specs.declared.message_state.MessageState.{MessageState}
use Rattle.smq_receipt.specs.declared.message_state.MessageState.TheVariants.{Enroute, Delivered, Expired, Deleted, Undeliverable, Accepted, Unknown, Rejected}

by_number : (state : MessageState) → state_of_number (row_of state).number ≡ Some state
unfolding state_of_number
by_number Enroute = refl
by_number Delivered = refl
by_number Expired = refl
by_number Deleted = refl
by_number Undeliverable = refl
by_number Accepted = refl
by_number Unknown = refl
by_number Rejected = refl

by_word : (state : MessageState) → state_of_word (row_of state).word ≡ Some state
unfolding state_of_word same_letters
by_word Enroute = refl
by_word Delivered = refl
by_word Expired = refl
by_word Deleted = refl
by_word Undeliverable = refl
by_word Accepted = refl
by_word Unknown = refl
by_word Rejected = refl

passes_by : {X : Type 0} (test : X → Bool) (y x : X) (rest : Option X) (b : Bool) → test y ≡ b → cond b (Some y) rest ≡ Some x
    → (rest ≡ Some x → test x ≡ true) → test x ≡ true
passes_by test y x rest true t e later = let is : y ≡ x = cc in ap test (sym is) ∙ t
passes_by test y x rest false t e later = later e

-- what is found passes the test
found_passes : {X : Type 0} (test : X → Bool) (xs : List X) (x : X) → find test xs ≡ Some x → test x ≡ true
found_passes test [] x e = absurd cc
found_passes test (y ∷ ys) x e = passes_by test y x (find test ys) (test y) refl e (λ later. found_passes test ys x later)

numbered : (number : ℕ) (state : MessageState) → state_of_number number ≡ Some state → (row_of state).number ≡ number
unfolding state_of_number
numbered number state e = (Decides-eqb (row_of state).number number).0 (found_passes (λ s. (row_of s).number == number) states state e)

worded : (word : List ℕ) (state : MessageState) → state_of_word word ≡ Some state → same_letters word (row_of state).word ≡ true
unfolding state_of_word
worded word state e = found_passes (λ s. same_letters word (row_of s).word) states state e

pub table : StatesAreTheTable
table = record { by_number = by_number; numbered = numbered; by_word = by_word; worded = worded }
