use Rattle.std.proofs.Common.{◌≡◌, Bool, true, false, List, [], ◌∷◌, Option, Some, None, find, filter, refl, ap, cond, ◌∙◌, nat_lt, rules}
use Rattle.std.specs.Option.{option_map}
use Rattle.std.specs.Map.Iter.{TakesFirst, deref_pair}
use Rattle.smq_reassembly.proofs.waiting.piece_after.Goals as goal

abbrev first_of_list : {X : Type 0} → List X → Option X
first_of_list [] = None
first_of_list (x ∷ xs) = Some x

find_by_filter : {X : Type 0} (p q : X → Bool) → ((x : X) → q x ≡ p x) → (xs : List X) → first_of_list (filter q xs) ≡ find p xs
find_by_filter p q same [] = refl
find_by_filter p q same (x ∷ xs) = rw (same x) (at (p x) (find_by_filter p q same xs))
  where
    at : (b : Bool) → first_of_list (filter q xs) ≡ find p xs → first_of_list (cond b (x ∷ filter q xs) (filter q xs)) ≡ cond b (Some x) (find p xs)
    at true h = refl
    at false h = h

shown_first : {A X : Type 0} (shows : A → X) (r t : List X) (x : Option A) → TakesFirst shows r x t → option_map shows x ≡ first_of_list r
shown_first shows r t None h = rw h.0 refl
shown_first shows r t (Some x) h = rw h refl

pub returns : goal.returns
returns c =
    shown_first deref_pair _ _ _ c.next.ensures.steps ∙ ap first_of_list (c.range.ensures.between (search rules))
    ∙ find_by_filter (λ e. nat_lt c.args.place.now e.0) _ (λ e. search rules) c.args.pieces.now.entries
