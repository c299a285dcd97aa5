-- What notes of the other end tell.
use Rattle.std.proofs.Common.{◌≡◌, ℕ, zero, suc, ◌+◌, ◌-◌, ◌<◌, ◌≤◌, Bool, true, false, List, [], ◌∷◌, ◌++◌, length, get_or, refl, ap, ◌∙◌, arith}
use Rattle.std.specs.Prelude.{nat_le, if◌then◌else◌, Option, Some, None}
use Rattle.std.specs.Option.{option_or}
use Rattle.std.proofs.lemmas.Bool.Decides.{nat_tests}
use Rattle.smq_streams.specs.declared.acknowledged.Note.{Note}
use Rattle.smq_streams.specs.Acknowledged.{noted, since}

choice : (b : Bool) (m : ℕ) (x y : Option ℕ) → (if b then Some m else option_or x y) ≡ option_or (if b then Some m else x) y
choice true m x y = refl
choice false m x y = refl

pub since-more : (notes : List Note) (note : Note) (n : ℕ)
    → since (notes ++ note ∷ []) n ≡ option_or (since notes n) (noted note.place note.moment n)
since-more [] note n = refl
since-more (it ∷ notes) note n =
    ap (λ (x : Option ℕ). if nat_le n it.place then Some it.moment else x) (since-more notes note n)
    ∙ choice (nat_le n it.place) it.moment (since notes n) (noted note.place note.moment n)

or_none : (x : Option ℕ) → x ≡ option_or x None
or_none None = refl
or_none (Some m) = refl

or_some : (x y : Option ℕ) → (x ≡ None → ⊥) → x ≡ option_or x y
or_some None y h = absurd (h refl)
or_some (Some m) y h = refl

some : (b : Bool) (m : ℕ) (x : Option ℕ) → (b ≡ false → x ≡ None → ⊥) → (if b then Some m else x) ≡ None → ⊥
some true m x h e = absurd (cc)
some false m x h e = h refl e

-- a note of a place or one behind it tells since when
told : (notes : List Note) (k : ℕ) (last : Note) (n : ℕ) → k < length notes → last ≡ get_or notes k last → n ≤ last.place → since notes n ≡ None → ⊥
told [] k last n l e h = absurd (omega arith)
told (it ∷ notes) zero last n l e h =
    let same : last.place ≡ it.place = ap (λ (x : Note). x.place) e in
    some (nat_le n it.place) it.moment (since notes n) (λ f. let low : n ≤ it.place = omega arith in absurd (grind (arith, nat_tests)))
told (it ∷ notes) (suc k) last n l e h =
    let less : k < length notes = omega arith in
    some (nat_le n it.place) it.moment (since notes n) (λ f. told notes k last n less e h)

decide : (b : Bool) (m : ℕ) (x : Option ℕ) → (b ≡ true → x ≡ None → ⊥) → x ≡ option_or x (if b then Some m else None)
decide true m x h = or_some x (Some m) (h refl)
decide false m x h = or_none x

pub not-new : (notes : List Note) (k : ℕ) (last : Note) (place moment n : ℕ) → k < length notes → last ≡ get_or notes k last
    → place ≤ last.place → since notes n ≡ option_or (since notes n) (noted place moment n)
not-new notes k last place moment n l e h = decide (nat_le n place) moment (since notes n) (λ t.
    let low : n ≤ place = grind (arith, nat_tests) in told notes k last n l e (omega arith))
