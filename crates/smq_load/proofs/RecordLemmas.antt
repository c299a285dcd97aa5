-- A record's fields by their places, and the row that it says.
use Rattle.std.proofs.Common.{◌≡◌, ◌<◌, ℕ, zero, suc, List, [], ◌∷◌, length, drop, Bor, Option, Some, None, IsSome, option_map, refl, sym, subst, arith}
use Rattle.std.specs.Prelude.{option_and_then}
use Rattle.csv.specs.Records.{field_at}
use Rattle.smq_load.specs.declared.record.Kind.{Kind}
use Rattle.smq_load.specs.declared.record.Kind.TheVariants as kind
use Rattle.smq_load.specs.Row.{field_count_of, kind_of, row_of, row_of_kind}

-- the field at a place of a record is there
field_at-there : (fields : List (List ℕ)) (place : ℕ) → place < length fields → IsSome (field_at fields place)
unfolding field_at
field_at-there [] place h = absurd (omega arith)
field_at-there (f ∷ fs) zero h = refl
field_at-there (f ∷ fs) (suc place) h = field_at-there fs place (omega arith)

-- a field that is there is got
pub IsSome-got : (o : Option (Bor (List ℕ))) (fields : List (List ℕ)) (place : ℕ) → option_map (λ (s : Bor (List ℕ)). s.now) o ≡ field_at fields place
    → place < length fields → IsSome o
IsSome-got None fields place e h = let there = subst (λ (x : Option (List ℕ)). IsSome x) (sym e) (field_at-there fields place h) in cc
IsSome-got (Some s) fields place e h = refl

-- ---- the fields after the first, by their places

pub drop-two : (fields : List (List ℕ)) (a : List ℕ) → length fields ≡ 2
    → field_at fields 1 ≡ Some a → drop 1 fields ≡ a ∷ []
unfolding field_at
drop-two [] a n h = absurd (omega arith)
drop-two (r ∷ []) a n h = absurd (omega arith)
drop-two (r ∷ s ∷ []) a n h = cc
drop-two (r ∷ s ∷ t ∷ rest) a n h = absurd (omega arith)

pub drop-three : (fields : List (List ℕ)) (a b : List ℕ) → length fields ≡ 3
    → field_at fields 1 ≡ Some a → field_at fields 2 ≡ Some b → drop 1 fields ≡ a ∷ b ∷ []
unfolding field_at
drop-three [] a b n h k = absurd (omega arith)
drop-three (r ∷ []) a b n h k = absurd (omega arith)
drop-three (r ∷ s ∷ []) a b n h k = absurd (omega arith)
drop-three (r ∷ s ∷ t ∷ []) a b n h k = cc
drop-three (r ∷ s ∷ t ∷ u ∷ rest) a b n h k = absurd (omega arith)

pub drop-four : (fields : List (List ℕ)) (a b c : List ℕ) → length fields ≡ 4
    → field_at fields 1 ≡ Some a → field_at fields 2 ≡ Some b → field_at fields 3 ≡ Some c → drop 1 fields ≡ a ∷ b ∷ c ∷ []
unfolding field_at
drop-four [] a b c n h k l = absurd (omega arith)
drop-four (r ∷ []) a b c n h k l = absurd (omega arith)
drop-four (r ∷ s ∷ []) a b c n h k l = absurd (omega arith)
drop-four (r ∷ s ∷ t ∷ []) a b c n h k l = absurd (omega arith)
drop-four (r ∷ s ∷ t ∷ u ∷ []) a b c n h k l = cc
drop-four (r ∷ s ∷ t ∷ u ∷ v ∷ rest) a b c n h k l = absurd (omega arith)

pub drop-five : (fields : List (List ℕ)) (a b c d : List ℕ) → length fields ≡ 5
    → field_at fields 1 ≡ Some a → field_at fields 2 ≡ Some b → field_at fields 3 ≡ Some c → field_at fields 4 ≡ Some d
    → drop 1 fields ≡ a ∷ b ∷ c ∷ d ∷ []
unfolding field_at
drop-five [] a b c d n h k l m = absurd (omega arith)
drop-five (r ∷ []) a b c d n h k l m = absurd (omega arith)
drop-five (r ∷ s ∷ []) a b c d n h k l m = absurd (omega arith)
drop-five (r ∷ s ∷ t ∷ []) a b c d n h k l m = absurd (omega arith)
drop-five (r ∷ s ∷ t ∷ u ∷ []) a b c d n h k l m = absurd (omega arith)
drop-five (r ∷ s ∷ t ∷ u ∷ v ∷ []) a b c d n h k l m = cc
drop-five (r ∷ s ∷ t ∷ u ∷ v ∷ w ∷ rest) a b c d n h k l m = absurd (omega arith)

pub drop-six : (fields : List (List ℕ)) (a b c d e : List ℕ) → length fields ≡ 6
    → field_at fields 1 ≡ Some a → field_at fields 2 ≡ Some b → field_at fields 3 ≡ Some c → field_at fields 4 ≡ Some d
    → field_at fields 5 ≡ Some e → drop 1 fields ≡ a ∷ b ∷ c ∷ d ∷ e ∷ []
unfolding field_at
drop-six [] a b c d e n h k l m p = absurd (omega arith)
drop-six (r ∷ []) a b c d e n h k l m p = absurd (omega arith)
drop-six (r ∷ s ∷ []) a b c d e n h k l m p = absurd (omega arith)
drop-six (r ∷ s ∷ t ∷ []) a b c d e n h k l m p = absurd (omega arith)
drop-six (r ∷ s ∷ t ∷ u ∷ []) a b c d e n h k l m p = absurd (omega arith)
drop-six (r ∷ s ∷ t ∷ u ∷ v ∷ []) a b c d e n h k l m p = absurd (omega arith)
drop-six (r ∷ s ∷ t ∷ u ∷ v ∷ w ∷ []) a b c d e n h k l m p = cc
drop-six (r ∷ s ∷ t ∷ u ∷ v ∷ w ∷ x ∷ rest) a b c d e n h k l m p = absurd (omega arith)

-- ---- the row by the kind

-- a record that names no kind says no row
pub row_of-none : (fields : List (List ℕ)) → option_and_then kind_of (field_at fields 0) ≡ None → row_of fields ≡ None
unfolding field_at
row_of-none [] h = refl
row_of-none (first ∷ rest) h = by_kind (kind_of first) h
  where
    by_kind : (k : Option Kind) → k ≡ None → option_and_then (λ k. row_of_kind k rest) k ≡ None
    by_kind None h = refl
    by_kind (Some k) h = cc

-- a record that names a kind says the row of that kind
pub row_of-some : (fields : List (List ℕ)) (k : Kind) → option_and_then kind_of (field_at fields 0) ≡ Some k
    → row_of fields ≡ row_of_kind k (drop 1 fields)
unfolding field_at
row_of-some [] k h = cc
row_of-some (first ∷ rest) k h = rw h refl

-- a record of another number of fields than those of its kind says no row
pub row_of_kind-other : (k : Kind) (fields : List (List ℕ)) → (length fields ≡ field_count_of k → ⊥) → row_of_kind k (drop 1 fields) ≡ None
row_of_kind-other kind.Piece [] h = refl
row_of_kind-other kind.Piece (r ∷ []) h = refl
row_of_kind-other kind.Piece (r ∷ s ∷ []) h = refl
row_of_kind-other kind.Piece (r ∷ s ∷ t ∷ []) h = refl
row_of_kind-other kind.Piece (r ∷ s ∷ t ∷ u ∷ []) h = refl
row_of_kind-other kind.Piece (r ∷ s ∷ t ∷ u ∷ v ∷ []) h = refl
row_of_kind-other kind.Piece (r ∷ s ∷ t ∷ u ∷ v ∷ w ∷ []) h = absurd (h refl)
row_of_kind-other kind.Piece (r ∷ s ∷ t ∷ u ∷ v ∷ w ∷ x ∷ rest) h = refl
row_of_kind-other kind.Withdraw [] h = refl
row_of_kind-other kind.Withdraw (r ∷ []) h = refl
row_of_kind-other kind.Withdraw (r ∷ s ∷ []) h = absurd (h refl)
row_of_kind-other kind.Withdraw (r ∷ s ∷ t ∷ rest) h = refl
row_of_kind-other kind.Form [] h = refl
row_of_kind-other kind.Form (r ∷ []) h = refl
row_of_kind-other kind.Form (r ∷ s ∷ []) h = refl
row_of_kind-other kind.Form (r ∷ s ∷ t ∷ []) h = refl
row_of_kind-other kind.Form (r ∷ s ∷ t ∷ u ∷ []) h = absurd (h refl)
row_of_kind-other kind.Form (r ∷ s ∷ t ∷ u ∷ v ∷ rest) h = refl
row_of_kind-other kind.Window [] h = refl
row_of_kind-other kind.Window (r ∷ []) h = refl
row_of_kind-other kind.Window (r ∷ s ∷ []) h = refl
row_of_kind-other kind.Window (r ∷ s ∷ t ∷ []) h = absurd (h refl)
row_of_kind-other kind.Window (r ∷ s ∷ t ∷ u ∷ rest) h = refl
row_of_kind-other kind.Route [] h = refl
row_of_kind-other kind.Route (r ∷ []) h = refl
row_of_kind-other kind.Route (r ∷ s ∷ []) h = refl
row_of_kind-other kind.Route (r ∷ s ∷ t ∷ []) h = refl
row_of_kind-other kind.Route (r ∷ s ∷ t ∷ u ∷ []) h = refl
row_of_kind-other kind.Route (r ∷ s ∷ t ∷ u ∷ v ∷ []) h = absurd (h refl)
row_of_kind-other kind.Route (r ∷ s ∷ t ∷ u ∷ v ∷ w ∷ rest) h = refl
row_of_kind-other kind.End [] h = refl
row_of_kind-other kind.End (r ∷ []) h = refl
row_of_kind-other kind.End (r ∷ s ∷ []) h = refl
row_of_kind-other kind.End (r ∷ s ∷ t ∷ []) h = refl
row_of_kind-other kind.End (r ∷ s ∷ t ∷ u ∷ []) h = absurd (h refl)
row_of_kind-other kind.End (r ∷ s ∷ t ∷ u ∷ v ∷ rest) h = refl
row_of_kind-other kind.Correct [] h = refl
row_of_kind-other kind.Correct (r ∷ []) h = refl
row_of_kind-other kind.Correct (r ∷ s ∷ []) h = refl
row_of_kind-other kind.Correct (r ∷ s ∷ t ∷ []) h = refl
row_of_kind-other kind.Correct (r ∷ s ∷ t ∷ u ∷ []) h = refl
row_of_kind-other kind.Correct (r ∷ s ∷ t ∷ u ∷ v ∷ []) h = absurd (h refl)
row_of_kind-other kind.Correct (r ∷ s ∷ t ∷ u ∷ v ∷ w ∷ rest) h = refl
row_of_kind-other kind.Clock [] h = refl
row_of_kind-other kind.Clock (r ∷ []) h = refl
row_of_kind-other kind.Clock (r ∷ s ∷ []) h = absurd (h refl)
row_of_kind-other kind.Clock (r ∷ s ∷ t ∷ rest) h = refl
