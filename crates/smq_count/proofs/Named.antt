-- The first column that has a name is found where it stands.
use Rattle.std.proofs.Common.{◌≡◌, ◌+◌, ◌<◌, ℕ, suc, Bool, true, false, List, Some, cond, drop, find, get_or, length, ap, ◌∙◌, arith}
use Rattle.std.proofs.Math.Seq.{drop-cons}
use Rattle.smq_count.specs.declared.column.Column.{Column}

next_place : (i : ℕ) → suc i ≡ i + 1
next_place i = omega arith

pub find-first : (p : Column → Bool) (xs : List Column) (i : ℕ) (d : Column) → i < length xs → p (get_or xs i d) ≡ true
    → find p (drop i xs) ≡ Some (get_or xs i d)
find-first p xs i d lt e =
    ap (find p) (drop-cons xs i d lt) ∙ ap (λ (b : Bool). cond b (Some (get_or xs i d)) (find p (drop (suc i) xs))) e

pub find-next : (p : Column → Bool) (xs : List Column) (i : ℕ) (d : Column) → i < length xs → p (get_or xs i d) ≡ false
    → find p (drop i xs) ≡ find p (drop (i + 1) xs)
find-next p xs i d lt e =
    ap (find p) (drop-cons xs i d lt) ∙ ap (λ (b : Bool). cond b (Some (get_or xs i d)) (find p (drop (suc i) xs))) e
    ∙ ap (λ (n : ℕ). find p (drop n xs)) (next_place i)
