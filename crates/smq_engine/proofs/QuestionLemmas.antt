-- The columns that fields name, one field after the other, and the question that fields are.
use Rattle.std.proofs.Common.{◌≡◌, ◌+◌, ◌≤◌, ◌<◌, ℕ, zero, suc, List, [], ◌∷◌, ◌++◌, length, drop, Option, Some, None, true, false, refl, sym, ap, ◌∙◌, arith, append-nil, append_assoc}
use Rattle.std.specs.Prelude.{codes, find, option_and_then, option_map}
use Rattle.std.specs.Str.{bytes_eq}
use Rattle.csv.specs.Records.{field_at}
use Rattle.smq_count.specs.declared.column.Column.{Column}
use Rattle.smq_count.specs.Columns.{columns, is_named}
use Rattle.smq_engine.specs.Record.{AsksCount, AsksReport, columns_of, pick_of, question_of}

-- columns after these
abbrev pub columns-after : List Column → Option (List Column) → Option (List Column)
columns-after before found = option_map (λ more. before ++ more) found

pub columns-first : (found : Option (List Column)) → found ≡ columns-after [] found
columns-first None = refl
columns-first (Some some) = refl

-- columns, then one, and then more
columns-joined : (before : List Column) (column : Column) (found : Option (List Column))
    → columns-after before (columns-after (column ∷ []) found) ≡ columns-after (before ++ column ∷ []) found
columns-joined before column None = refl
columns-joined before column (Some more) = ap Some (sym (append_assoc before (column ∷ []) more))

-- the fields from a place on
drop-next : (fields : List (List ℕ)) (place : ℕ) (name : List ℕ) → field_at fields place ≡ Some name
    → drop place fields ≡ name ∷ drop (suc place) fields
unfolding field_at
drop-next [] place name h = absurd cc
drop-next (f ∷ fs) zero name h = cc
drop-next (f ∷ fs) (suc place) name h = drop-next fs place name h

next_place : (place : ℕ) → suc place ≡ place + 1
next_place place = omega arith

drop-at : (fields : List (List ℕ)) (place : ℕ) (name : List ℕ) → field_at fields place ≡ Some name
    → drop place fields ≡ name ∷ drop (place + 1) fields
drop-at fields place name h =
    drop-next fields place name h ∙ ap (λ (n : ℕ). name ∷ drop n fields) (next_place place)

columns-of-next : (name : List ℕ) (names : List (List ℕ)) (found : Option Column) → found ≡ find (is_named name) columns
    → columns_of (name ∷ names) ≡ option_and_then (λ column. option_map (λ more. column ∷ more) (columns_of names)) found
unfolding columns_of
columns-of-next name names found h = rw h refl

-- a field names a column
pub columns-next : (fields : List (List ℕ)) (place : ℕ) (name : List ℕ) (column : Column) (before : List Column)
    → field_at fields place ≡ Some name → Some column ≡ find (is_named name) columns
    → columns-after before (columns_of (drop place fields)) ≡ columns-after (before ++ column ∷ []) (columns_of (drop (place + 1) fields))
columns-next fields place name column before at found =
    ap (λ (names : List (List ℕ)). columns-after before (columns_of names)) (drop-at fields place name at)
    ∙ ap (columns-after before) (columns-of-next name (drop (place + 1) fields) (Some column) found)
    ∙ columns-joined before column (columns_of (drop (place + 1) fields))

-- a field names none
pub columns-none : (fields : List (List ℕ)) (place : ℕ) (name : List ℕ) (before : List Column)
    → field_at fields place ≡ Some name → None ≡ find (is_named name) columns → columns-after before (columns_of (drop place fields)) ≡ None
columns-none fields place name before at found =
    ap (λ (names : List (List ℕ)). columns-after before (columns_of names)) (drop-at fields place name at)
    ∙ ap (columns-after before) (columns-of-next name (drop (place + 1) fields) None found)

-- there is no field more
drop-all : (fields : List (List ℕ)) (place : ℕ) → length fields ≤ place → drop place fields ≡ []
drop-all [] zero h = refl
drop-all [] (suc place) h = refl
drop-all (f ∷ fs) zero h = absurd (omega (arith, h))
drop-all (f ∷ fs) (suc place) h = drop-all fs place (omega (arith, h))

columns-of-none : columns_of [] ≡ Some []
unfolding columns_of
columns-of-none = refl

pub columns-last : (fields : List (List ℕ)) (place : ℕ) (before : List Column) → length fields ≤ place
    → columns-after before (columns_of (drop place fields)) ≡ Some before
columns-last fields place before h =
    ap (λ (names : List (List ℕ)). columns-after before (columns_of names)) (drop-all fields place h)
    ∙ ap (columns-after before) columns-of-none ∙ ap Some (append-nil before)

-- ---- questions by how many fields there are

pub question-pick : (fields : List (List ℕ)) (name : List ℕ) → length fields ≡ 2 → field_at fields 1 ≡ Some name
    → question_of (drop 1 fields) ≡ option_map AsksReport (pick_of name)
unfolding field_at
question-pick [] name n at = absurd (omega (arith, n))
question-pick (a ∷ []) name n at = absurd (omega (arith, n))
question-pick (a ∷ b ∷ []) name n at = let same : b ≡ name = cc in ap (λ (l : List ℕ). option_map AsksReport (pick_of l)) same
question-pick (a ∷ b ∷ d ∷ fields) name n at = absurd (omega (arith, n))

pub question-other : (fields : List (List ℕ)) (name : List ℕ) → 2 < length fields → field_at fields 1 ≡ Some name
    → bytes_eq name (codes "count") ≡ false → question_of (drop 1 fields) ≡ None
unfolding field_at
question-other [] name n at is = absurd (omega (arith, n))
question-other (a ∷ []) name n at is = absurd (omega (arith, n))
question-other (a ∷ b ∷ []) name n at is = absurd (omega (arith, n))
question-other (a ∷ b ∷ d ∷ fields) name n at is =
    let same : b ≡ name = cc in
    let counts : bytes_eq b (codes "count") ≡ false = ap (λ (l : List ℕ). bytes_eq l (codes "count")) same ∙ is in
    rw counts refl

pub question-count : (fields : List (List ℕ)) (name : List ℕ) → 2 < length fields → field_at fields 1 ≡ Some name
    → bytes_eq name (codes "count") ≡ true → question_of (drop 1 fields) ≡ option_map AsksCount (columns_of (drop 2 fields))
unfolding field_at
question-count [] name n at is = absurd (omega (arith, n))
question-count (a ∷ []) name n at is = absurd (omega (arith, n))
question-count (a ∷ b ∷ []) name n at is = absurd (omega (arith, n))
question-count (a ∷ b ∷ d ∷ fields) name n at is =
    let same : b ≡ name = cc in
    let counts : bytes_eq b (codes "count") ≡ true = ap (λ (l : List ℕ). bytes_eq l (codes "count")) same ∙ is in
    rw counts refl
