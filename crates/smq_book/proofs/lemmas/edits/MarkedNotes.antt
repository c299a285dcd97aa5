-- Notes after moves, note by note: whether one is among them follows from whether it was.
use Rattle.std.proofs.Common.{◌≡◌, ℕ, Bool, true, false, cond, List, [], ◌∷◌, ◌++◌, Some, None, refl, sym, ap, ◌∙◌}
use Rattle.std.specs.Prelude.{fold}
use Rattle.std.specs.List.{AllByRecursion}
use Rattle.std.specs.Cmp.{nat_cmp_total, tied_itself}
use Rattle.std.specs.Ordering.{eq_by_cmp, is_eq, nat_cmp}
use Rattle.std.specs.FinMap.{get, get-insert, get-remove}
use Rattle.std.proofs.lemmas.Bool.{false≢true}
use Rattle.smq_kit.proofs.MapLemmas as maps
use Rattle.smq_tally.specs.declared.list.Listed.{Listed}
use Rattle.smq_tally.specs.Lists.{listed_cmp}
use Rattle.smq_tally.specs.within.ListOrder.{listed_total}
use Rattle.smq_tally.proofs.ListOrders.{listed_exact}
use Rattle.smq_tally.proofs.Listings.{marked}
use Rattle.smq_present.specs.pairing.Traffic.{TrafficValue}
use Rattle.smq_present.specs.join.Moves.{Move, PutMessage, TakeMessage, PutReceipt, TakeReceipt, PutNote, TakeNote, moved, moved_by}

-- ---- one note

-- whether a note is among the notes after a move
abbrev pub mark : Listed → Bool → Move → Bool
mark e b (PutMessage x) = b
mark e b (TakeMessage q) = b
mark e b (PutReceipt x) = b
mark e b (TakeReceipt q) = b
mark e b (PutNote note) = cond (eq_by_cmp listed_cmp e note) true b
mark e b (TakeNote note) = cond (eq_by_cmp listed_cmp e note) false b

-- and after moves, in turn
abbrev pub mark_by : Listed → Bool → List Move → Bool
mark_by e b moves = fold (mark e) b moves

pub mark-both : (e : Listed) (b : Bool) (xs ys : List Move) → mark_by e b (xs ++ ys) ≡ mark_by e (mark_by e b xs) ys
mark-both e b [] ys = refl
mark-both e b (x ∷ xs) ys = mark-both e (mark e b x) xs ys

put_marked : (c b : Bool) → cond c (Some (tt {0})) (marked b) ≡ marked (cond c true b)
put_marked true b = refl
put_marked false b = refl

take_marked : (c b : Bool) → cond c None (marked b) ≡ marked (cond c false b)
take_marked true b = refl
take_marked false b = refl

marked-once : (t : TrafficValue) (e : Listed) (b : Bool) (move : Move) → get t.notes e ≡ marked b
    → get (moved t move).notes e ≡ marked (mark e b move)
marked-once t e b (PutMessage x) h = h
marked-once t e b (TakeMessage q) h = h
marked-once t e b (PutReceipt x) h = h
marked-once t e b (TakeReceipt q) h = h
marked-once t e b (PutNote note) h =
    get-insert listed_total t.notes note tt e ∙ ap (cond (eq_by_cmp listed_cmp e note) (Some tt)) h ∙ put_marked (eq_by_cmp listed_cmp e note) b
marked-once t e b (TakeNote note) h =
    get-remove listed_total t.notes note e ∙ ap (cond (eq_by_cmp listed_cmp e note) None) h ∙ take_marked (eq_by_cmp listed_cmp e note) b

pub marked-by : (t : TrafficValue) (e : Listed) (b : Bool) (moves : List Move) → get t.notes e ≡ marked b
    → get (moved_by t moves).notes e ≡ marked (mark_by e b moves)
marked-by t e b [] h = h
marked-by t e b (move ∷ moves) h = marked-by (moved t move) e (mark e b move) moves (marked-once t e b move h)

-- ---- notes of a session

-- A move puts in or takes out a note of a session.
abbrev pub IsOf : ℕ → Move → Type 0
IsOf n (PutMessage x) = ⊥
IsOf n (TakeMessage q) = ⊥
IsOf n (PutReceipt x) = ⊥
IsOf n (TakeReceipt q) = ⊥
IsOf n (PutNote note) = note.place.session.0 ≡ n
IsOf n (TakeNote note) = note.place.session.0 ≡ n

module _ (n : ℕ) (e : Listed) (apart : eq_by_cmp nat_cmp e.place.session.0 n ≡ false) where
  other-note : (note : Listed) → note.place.session.0 ≡ n → eq_by_cmp listed_cmp e note ≡ false
  other-note note is = by (eq_by_cmp listed_cmp e note) refl
    where
      by : (b : Bool) → eq_by_cmp listed_cmp e note ≡ b → b ≡ false
      by true t =
          absurd (false≢true (sym apart ∙ ap (λ m. eq_by_cmp nat_cmp m n) (ap (λ (x : Listed). x.place.session.0)
          (maps.same_key listed_total listed_exact e note t) ∙ is)
          ∙ ap is_eq (tied_itself nat_cmp_total n)))
      by false t = refl

  unmoved-once : (t : TrafficValue) (move : Move) → IsOf n move → get (moved t move).notes e ≡ get t.notes e
  unmoved-once t (PutMessage x) is = refl
  unmoved-once t (TakeMessage q) is = refl
  unmoved-once t (PutReceipt x) is = refl
  unmoved-once t (TakeReceipt q) is = refl
  unmoved-once t (PutNote note) is = get-insert listed_total t.notes note tt e ∙ ap (λ b. cond b (Some tt) (get t.notes e)) (other-note note is)
  unmoved-once t (TakeNote note) is = get-remove listed_total t.notes note e ∙ ap (λ b. cond b None (get t.notes e)) (other-note note is)

  -- moves of a session leave the notes of others
  pub unmoved : (t : TrafficValue) (moves : List Move) → AllByRecursion (IsOf n) moves → get (moved_by t moves).notes e ≡ get t.notes e
  unmoved t [] all = refl
  unmoved t (move ∷ moves) all = unmoved (moved t move) moves all.1 ∙ unmoved-once t move all.0
