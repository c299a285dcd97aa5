-- Moves in turn leave facts and notes outside of what each of them changes.
use Rattle.std.proofs.Common.{◌≡◌, ◌||◌, false, List, [], ◌∷◌, ◌++◌, refl, sym, ◌∙◌}
use Rattle.std.specs.List.{list_any}
use Rattle.std.specs.declared.cmp.Ordering.{Ordering}
use Rattle.std.specs.Ordering.{eq_by_cmp}
use Rattle.std.specs.FinMap.{FinMap}
use Rattle.std.proofs.lemmas.List.Folds.{list_any-append}
use Rattle.smq_kit.specs.Maps.{SameOutside}
use Rattle.smq_kit.proofs.Comparisons.{or_first, or_second}
use Rattle.smq_present.specs.present.Settings.{SettingsValue}
use Rattle.smq_present.specs.pairing.Traffic.{TrafficValue}
use Rattle.smq_present.specs.join.Facts.{facts_of}
use Rattle.smq_present.specs.join.Keyed.{grouping_of}
use Rattle.smq_present.specs.join.Listings.{receipt_listings, notes_of}
use Rattle.smq_present.specs.join.Moves.{Move, PutMessage, TakeMessage, PutReceipt, TakeReceipt, PutNote, TakeNote, moved, moved_by, changes_of, receipt_changes_of, put_message, take_message, put_receipt, take_receipt}
use Rattle.smq_book.specs.edits.InTurn.{IsFree, AreFree, moved_place, moved_note, facts_changed, notes_changed}
use Rattle.smq_present.proofs.lemmas.join.MoveLemmas.{moves, changes-cover, put_message-moves, take_message-moves, put_receipt-moves, take_receipt-moves}
use Rattle.smq_present.proofs.lemmas.join.ReceiptNotes.{notes-outside, receipt-changes-cover, put-outside, take-outside}

-- ---- outside of two lists, one after the other

module _ {K X : Type 0} {R : K → K → Ordering} where
  then : (xs ys : List K) (l m n : FinMap R X) → SameOutside xs l m → SameOutside ys m n → SameOutside (xs ++ ys) l n
  then xs ys l m n one two = record {
    at = λ q out.
        let parts : (list_any (eq_by_cmp R q) xs || list_any (eq_by_cmp R q) ys) ≡ false = sym (list_any-append (eq_by_cmp R q) xs ys) ∙ out in
        one.at q (or_first _ _ parts) ∙ two.at q (or_second (list_any (eq_by_cmp R q) xs) _ parts);
  }

  none : (xs : List K) (m : FinMap R X) → SameOutside xs m m
  none xs m = record { at = λ q out. refl }

  wider : (xs ys : List K) (m n : FinMap R X) → SameOutside xs m n → SameOutside (xs ++ ys) m n
  wider xs ys m n one = then xs ys m n n one (none ys n)

module _ (s : SettingsValue) where
  fact-move : (t : TrafficValue) (move : Move) → IsFree t move → SameOutside (moved_place move ++ changes_of (grouping_of s t) (grouping_of s (moved t move))) (facts_of s t) (facts_of s (moved t move))
  fact-move t (PutMessage e) free = let u = put_message e.0 e.1 t in moves e.0 t u (put_message-moves e.0 e.1 t free) s (changes_of (grouping_of s t) (grouping_of s u)) (changes-cover (grouping_of s t) (grouping_of s u))
  fact-move t (TakeMessage q) free = let u = take_message q t in moves q t u (take_message-moves q t free) s (changes_of (grouping_of s t) (grouping_of s u)) (changes-cover (grouping_of s t) (grouping_of s u))
  fact-move t (PutReceipt e) free = let u = put_receipt e.0 e.1 t in moves e.0 t u (put_receipt-moves e.0 e.1 t free) s (changes_of (grouping_of s t) (grouping_of s u)) (changes-cover (grouping_of s t) (grouping_of s u))
  fact-move t (TakeReceipt q) free = let u = take_receipt q t in moves q t u (take_receipt-moves q t) s (changes_of (grouping_of s t) (grouping_of s u)) (changes-cover (grouping_of s t) (grouping_of s u))
  fact-move t (PutNote note) free = none _ (facts_of s t)
  fact-move t (TakeNote note) free = none _ (facts_of s t)

  pub facts-in-turn : (t : TrafficValue) (ms : List Move) → AreFree t ms → SameOutside (facts_changed s t ms) (facts_of s t) (facts_of s (moved_by t ms))
  facts-in-turn t [] free = none [] (facts_of s t)
  facts-in-turn t (move ∷ ms) free =
      then (moved_place move ++ changes_of (grouping_of s t) (grouping_of s (moved t move))) (facts_changed s (moved t move) ms) (facts_of s t) (facts_of s (moved t move)) (facts_of s (moved_by (moved t move) ms))
      (fact-move t move free.0) (facts-in-turn (moved t move) ms free.1)

  by-groups : (t u : TrafficValue) → t.notes ≡ u.notes → SameOutside (receipt_listings (receipt_changes_of (grouping_of s t) (grouping_of s u))) (notes_of s t) (notes_of s u)
  by-groups t u same = notes-outside s s t u (receipt_changes_of (grouping_of s t) (grouping_of s u)) same (receipt-changes-cover (grouping_of s t) (grouping_of s u))

  note-move : (t : TrafficValue) (move : Move) → SameOutside (moved_note move ++ receipt_listings (receipt_changes_of (grouping_of s t) (grouping_of s (moved t move)))) (notes_of s t) (notes_of s (moved t move))
  note-move t (PutMessage e) = by-groups t (put_message e.0 e.1 t) refl
  note-move t (TakeMessage q) = by-groups t (take_message q t) refl
  note-move t (PutReceipt e) = by-groups t (put_receipt e.0 e.1 t) refl
  note-move t (TakeReceipt q) = by-groups t (take_receipt q t) refl
  note-move t (PutNote note) = wider (note ∷ []) _ (notes_of s t) (notes_of s (moved t (PutNote note))) (put-outside s t note)
  note-move t (TakeNote note) = wider (note ∷ []) _ (notes_of s t) (notes_of s (moved t (TakeNote note))) (take-outside s t note)

  pub notes-in-turn : (t : TrafficValue) (ms : List Move) → SameOutside (notes_changed s t ms) (notes_of s t) (notes_of s (moved_by t ms))
  notes-in-turn t [] = none [] (notes_of s t)
  notes-in-turn t (move ∷ ms) =
      then (moved_note move ++ receipt_listings (receipt_changes_of (grouping_of s t) (grouping_of s (moved t move)))) (notes_changed s (moved t move) ms) (notes_of s t) (notes_of s (moved t move)) (notes_of s (moved_by (moved t move) ms))
      (note-move t move) (notes-in-turn (moved t move) ms)
