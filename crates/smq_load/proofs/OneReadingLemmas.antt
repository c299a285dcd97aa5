-- A text is a script or has a first bad record.
use Rattle.std.proofs.Common.{◌≡◌, ◌≤◌, ◌+◌, ℕ, List, [], ◌∷◌, ◌++◌, length, map, Option, Some, None, ◌⊎◌, inl, inr, refl, subst, arith}
use Rattle.std.proofs.lemmas.Bool.{cases_lt}
use Rattle.smq_load.specs.declared.record.Row.{Row}
use Rattle.smq_load.specs.Row.{row_of}
use Rattle.smq_load.specs.Script.{AreRecordsOf, IsFirstBad, IsScript, SayRows, most_records}

-- a record is bad where so many stand before it
abbrev pub IsBadAfter : ℕ → List (List ℕ) → Type 0
IsBadAfter count fields = (row_of fields ≡ None) ⊎ (count ≡ most_records)

-- the row of the first of several records
first_says : (fields : List (List ℕ)) (records : List (List (List ℕ))) (rows : List Row) → SayRows (fields ∷ records) rows
    → (row : Row) × (row_of fields ≡ Some row) × ((others : List Row) × SayRows records others)
first_says fields records [] h = cc
first_says fields records (row ∷ rows) h = (row, cc, (rows, cc))

-- one that says a row, and is not past the limit, is not bad
says_and_bad : (count more : ℕ) (fields : List (List ℕ)) (row : Row) → row_of fields ≡ Some row → count + 1 + more ≤ most_records
    → IsBadAfter count fields → ⊥
says_and_bad count more fields row h low (inl none) = cc
says_and_bad count more fields row h low (inr full) = omega arith

pub rows-unique : (a b : List Row) → ◌≡◌ {A = List (Option Row)} (map Some a) (map Some b) → a ≡ b
rows-unique [] [] h = refl
rows-unique [] (y ∷ ys) h = cc
rows-unique (x ∷ xs) [] h = cc
rows-unique (x ∷ xs) (y ∷ ys) h =
    let tails : ◌≡◌ {A = List (Option Row)} (map Some xs) (map Some ys) = cc in
    let same = rows-unique xs ys tails in
    cc

pub first-unique : (k : ℕ) (a b : List (List (List ℕ))) (x y : List (List ℕ)) (after later : List (List (List ℕ))) (rows others : List Row)
    → a ++ x ∷ after ≡ b ++ y ∷ later → SayRows a rows → SayRows b others → k + length a ≤ most_records → k + length b ≤ most_records
    → IsBadAfter (k + length a) x → IsBadAfter (k + length b) y → length a ≡ length b
first-unique k [] [] x y after later rows others e p q low small bad ill = refl
first-unique k [] (z ∷ zs) x y after later rows others e p q low small bad ill =
    let says = first_says z zs others q in
    let same : x ≡ z = cc in
    let none : IsBadAfter k z = rw (← same) (subst (λ n. IsBadAfter n x) (omega arith) bad) in
    absurd (says_and_bad k (length zs) z says.0 says.1 (omega arith) none)
first-unique k (z ∷ zs) [] x y after later rows others e p q low small bad ill =
    let says = first_says z zs rows p in
    let same : y ≡ z = cc in
    let none : IsBadAfter k z = rw (← same) (subst (λ n. IsBadAfter n y) (omega arith) ill) in
    absurd (says_and_bad k (length zs) z says.0 says.1 (omega arith) none)
first-unique k (w ∷ ws) (z ∷ zs) x y after later rows others e p q low small bad ill =
    let left = first_says w ws rows p in
    let right = first_says z zs others q in
    let tails : ws ++ x ∷ after ≡ zs ++ y ∷ later = cc in
    let bad_left : IsBadAfter (k + 1 + length ws) x = subst (λ n. IsBadAfter n x) (omega arith) bad in
    let bad_right : IsBadAfter (k + 1 + length zs) y = subst (λ n. IsBadAfter n y) (omega arith) ill in
    let same = first-unique (k + 1) ws zs x y after later left.2.0 right.2.0 tails left.2.1 right.2.1 (omega arith) (omega arith)
    bad_left bad_right in
    omega (arith, same)

pub script_and_bad : (k : ℕ) (a : List (List (List ℕ))) (x : List (List ℕ)) (after : List (List (List ℕ))) (rows : List Row)
    → SayRows (a ++ x ∷ after) rows → k + length (a ++ x ∷ after) ≤ most_records → IsBadAfter (k + length a) x → ⊥
script_and_bad k [] x after rows h low bad =
    let says = first_says x after rows h in
    says_and_bad k (length after) x says.0 says.1 (omega arith) (subst (λ n. IsBadAfter n x) (omega arith) bad)
script_and_bad k (z ∷ zs) x after rows h low bad =
    let says = first_says z (zs ++ x ∷ after) rows h in
    script_and_bad (k + 1) zs x after says.2.0 says.2.1 (omega arith) (subst (λ n. IsBadAfter n x) (omega arith) bad)

-- records that follow so many each say a row
pub record AllSay (k : ℕ) (records : List (List (List ℕ))) : Type 0 where
  pub rows : List Row
  pub say_rows : SayRows records rows
  pub in_range : k + length records ≤ most_records

-- one of the records that follow so many is bad, and each before it says a row
pub record HasBad (k : ℕ) (records : List (List (List ℕ))) : Type 0 where
  pub before : List (List (List ℕ))
  pub bad : List (List ℕ)
  pub after : List (List (List ℕ))
  pub parts : records ≡ before ++ bad ∷ after
  pub rows : List Row
  pub say_rows : SayRows before rows
  pub in_range : k + length before ≤ most_records
  pub is_bad : IsBadAfter (k + length before) bad

-- the first of several records is bad
bad_here : (k : ℕ) (fields : List (List ℕ)) (records : List (List (List ℕ))) → k ≤ most_records → IsBadAfter k fields → HasBad k (fields ∷ records)
bad_here k fields records low bad = record {
  before = [];
  bad = fields;
  after = records;
  parts = refl;
  rows = [];
  say_rows = refl;
  in_range = omega arith;
  is_bad = subst (λ n. IsBadAfter n fields) (omega arith) bad;
}

-- a record that says a row stands before records of which all say rows, or one is bad
say_more : (k : ℕ) (fields : List (List ℕ)) (records : List (List (List ℕ))) (row : Row) → row_of fields ≡ Some row
    → AllSay (k + 1) records → AllSay k (fields ∷ records)
say_more k fields records row says h = record { rows = row ∷ h.rows; say_rows = rw (says, h.say_rows) refl; in_range = omega (arith, h.in_range) }

bad_later : (k : ℕ) (fields : List (List ℕ)) (records : List (List (List ℕ))) (row : Row) → row_of fields ≡ Some row
    → HasBad (k + 1) records → HasBad k (fields ∷ records)
bad_later k fields records row says h = record {
  before = fields ∷ h.before;
  bad = h.bad;
  after = h.after;
  parts = rw (← h.parts) refl;
  rows = row ∷ h.rows;
  say_rows = rw (says, h.say_rows) refl;
  in_range = omega (arith, h.in_range);
  is_bad = subst (λ n. IsBadAfter n h.bad) (omega arith) h.is_bad;
}

-- records that follow so many all say rows, or one is the first bad one
pub judged : (k : ℕ) (records : List (List (List ℕ))) → k ≤ most_records → AllSay k records ⊎ HasBad k records
judged k [] low = inl (record { rows = []; say_rows = refl; in_range = omega arith })
judged k (fields ∷ records) low = elim (cases_lt k most_records) [
  | inl below ↦ by_row (row_of fields) refl (judged (k + 1) records (omega arith))
  | inr full ↦ inr (bad_here k fields records low (inr (omega arith)))
]
  where
    by_row : (o : Option Row) → row_of fields ≡ o → AllSay (k + 1) records ⊎ HasBad (k + 1) records → AllSay k (fields ∷ records)
        ⊎ HasBad k (fields ∷ records)
    by_row None none later = inr (bad_here k fields records low (inl none))
    by_row (Some row) says (inl all) = inl (say_more k fields records row says all)
    by_row (Some row) says (inr bad) = inr (bad_later k fields records row says bad)

-- a text with these records is a script or has a first bad record
pub rows_or_bad : (text : List ℕ) (records : List (List (List ℕ))) → AreRecordsOf text records
    → ((rows : List Row) × IsScript text rows) ⊎ ((number : ℕ) × IsFirstBad text number)
rows_or_bad text records all = elim (judged 0 records (omega arith)) [
  | inl h ↦ inl (h.rows, record { records = records; are_records = all; say_rows = h.say_rows; in_range = omega (arith, h.in_range) })
  | inr h ↦ inr (
    length h.before + 1,
    record {
      before = h.before;
      bad = h.bad;
      after = h.after;
      are_records = subst (AreRecordsOf text) h.parts all;
      numbered = refl;
      rows = h.rows;
      say_rows = h.say_rows;
      in_range = omega (arith, h.in_range);
      is_bad = subst (λ n. IsBadAfter n h.bad) (omega arith) h.is_bad;
    },
  )
]
