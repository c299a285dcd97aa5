-- The PDU at an offset, among PDUs whose offsets rise, and what a binary search finds of it.
use Rattle.std.proofs.Common.{◌≡◌, ℕ, zero, suc, ◌+◌, ◌<◌, ◌≤◌, ◌⊎◌, inl, inr, Bool, true, false, cond, List, [], ◌∷◌, length, get_or, Some, None, refl, sym, ap, ◌∙◌, arith}
use Rattle.std.specs.Prelude.{◌==◌, filter, slice_get}
use Rattle.std.specs.List.Sorted.{IsNonDecreasingBy, IsPartitionPoint}
use Rattle.std.specs.declared.cmp.Ordering.TheVariants.{Less, Equal, Greater}
use Rattle.std.specs.Ordering.{nat_cmp, ordering_index}
use Rattle.std.proofs.lemmas.Bool.Decides.{nat_tests}
use Rattle.std.proofs.lemmas.Cmp.{ranked}
use Rattle.std.proofs.lemmas.Option.{slice_get-get_or, slice_get_within, get_or_from_slice_get}
use Rattle.smq_present.specs.declared.present.kept.StoredPdu.{StoredPdu}
use Rattle.smq_present.specs.within.Pairs.{Rises, pdu_at}

-- ---- the PDU at an offset

abbrev rest_at : ℕ → List StoredPdu → List StoredPdu
rest_at n ps = filter (λ (p : StoredPdu). p.offset == n) ps

at-or-later : (n : ℕ) (x : StoredPdu) (xs : List StoredPdu) (b : Bool) → (x.offset == n) ≡ b
    → pdu_at (x ∷ xs) n ≡ slice_get (cond b (x ∷ rest_at n xs) (rest_at n xs)) 0
at-or-later n x xs b e = ap (λ t. slice_get (cond t (x ∷ rest_at n xs) (rest_at n xs)) 0) e

-- an offset stands once among those that rise
pub at-offset : (low : ℕ) (ps : List StoredPdu) (j : ℕ) (r : StoredPdu) → Rises low ps → slice_get ps j ≡ Some r
    → (low ≤ r.offset) × (pdu_at ps r.offset ≡ Some r)
at-offset low [] j r h at = absurd cc
at-offset low (x ∷ xs) zero r h at =
    let one : x ≡ r = cc in
    let off : x.offset ≡ r.offset = ap (λ (p : StoredPdu). p.offset) one in
    let same : (x.offset == r.offset) ≡ true = grind (arith, nat_tests, off) in
    (omega (arith, h.0, off), at-or-later r.offset x xs true same ∙ at)
at-offset low (x ∷ xs) (suc j) r h at =
    let rest = at-offset (x.offset + 1) xs j r h.1 at in
    let above : x.offset + 1 ≤ r.offset = rest.0 in
    let other : (x.offset == r.offset) ≡ false = grind (arith, nat_tests, above) in
    (omega (arith, h.0, above), at-or-later r.offset x xs false other ∙ rest.1)

none-at : (n : ℕ) (ps : List StoredPdu) → ((k : ℕ) (p : StoredPdu) → slice_get ps k ≡ Some p → p.offset ≡ n → ⊥) → pdu_at ps n ≡ None
none-at n [] h = refl
none-at n (x ∷ xs) h = by_test (x.offset == n) refl (none-at n xs (λ k. h (suc k)))
  where
    by_test : (b : Bool) → (x.offset == n) ≡ b → pdu_at xs n ≡ None → pdu_at (x ∷ xs) n ≡ None
    by_test true e rest = let same : x.offset ≡ n = grind (arith, nat_tests, e) in absurd (h 0 x refl same)
    by_test false e rest = at-or-later n x xs false e ∙ rest

-- ---- the search

at-least : (low : ℕ) (ps : List StoredPdu) (j : ℕ) (d : StoredPdu) → Rises low ps → j < length ps → low ≤ (get_or ps j d).offset
at-least low [] j d h lt = absurd (omega (arith, lt))
at-least low (x ∷ xs) zero d h lt = h.0
at-least low (x ∷ xs) (suc j) d h lt = let more : x.offset + 1 ≤ (get_or xs j d).offset =
    at-least (x.offset + 1) xs j d h.1 (omega (arith, lt)) in omega (arith, h.0, more)

rising : (low : ℕ) (ps : List StoredPdu) (i j : ℕ) (d : StoredPdu) → Rises low ps → i ≤ j → j < length ps
    → (get_or ps i d).offset ≤ (get_or ps j d).offset
rising low [] i j d h le lt = absurd (omega (arith, lt))
rising low (x ∷ xs) zero zero d h le lt = omega arith
rising low (x ∷ xs) zero (suc j) d h le lt = let more : x.offset + 1 ≤ (get_or xs j d).offset =
    at-least (x.offset + 1) xs j d h.1 (omega (arith, lt)) in omega (arith, more)
rising low (x ∷ xs) (suc i) zero d h le lt = absurd (omega (arith, le))
rising low (x ∷ xs) (suc i) (suc j) d h le lt = rising (x.offset + 1) xs i j d h.1 (omega (arith, le)) (omega (arith, lt))

compared : (a b n : ℕ) → a ≤ b → ordering_index (nat_cmp a n) ≤ ordering_index (nat_cmp b n)
compared a b n h = grind (arith, nat_tests)

rises : (n : ℕ) (ps : List StoredPdu) → Rises 0 ps → IsNonDecreasingBy (λ (p : StoredPdu). ordering_index (nat_cmp p.offset n)) ps
rises n ps h i j d le lt = compared (get_or ps i d).offset (get_or ps j d).offset n (rising 0 ps i j d h le lt)

-- what is found stands there
pub found : (n : ℕ) (ps : List StoredPdu) (i : ℕ) (d : StoredPdu) → Rises 0 ps → i < length ps
    → ((x : StoredPdu) → nat_cmp (get_or ps i x).offset n ≡ Equal) → pdu_at ps n ≡ Some (get_or ps i d)
found n ps i d h lt same =
    let off : (get_or ps i d).offset ≡ n = ranked (get_or ps i d).offset n Equal (sym (same d)) in
    ap (pdu_at ps) (sym off) ∙ (at-offset 0 ps i (get_or ps i d) h (slice_get-get_or ps i d lt)).1

apart : (i k : ℕ) → (k < i) ⊎ (i ≤ k)
apart zero k = inr (omega arith)
apart (suc i) zero = inl (omega arith)
apart (suc i) (suc k) = elim (apart i k) [ inl h ↦ inl (omega (arith, h)) | inr h ↦ inr (omega (arith, h)) ]

-- where none is found there is none
pub not_found : (n : ℕ) (ps : List StoredPdu) (i : ℕ) → Rises 0 ps
    → (IsNonDecreasingBy (λ (p : StoredPdu). ordering_index (nat_cmp p.offset n)) ps
    → IsPartitionPoint (λ (p : StoredPdu). nat_cmp p.offset n ≡ Less) (λ (p : StoredPdu). nat_cmp p.offset n ≡ Greater) ps i)
    → pdu_at ps n ≡ None
not_found n ps i h searched =
    none-at n ps (λ k p at same.
    let point = searched (rises n ps h) in
    let is : get_or ps k p ≡ p = get_or_from_slice_get ps k p p at in
    let off : (get_or ps k p).offset ≡ n = ap (λ (q : StoredPdu). q.offset) is ∙ same in
    elim (apart i k) [
      | inl before ↦ let less : (get_or ps k p).offset < n =
          ranked (get_or ps k p).offset n Less (sym (point.0 k p (omega arith) before)) in omega (arith, less, off)
      | inr after ↦ let more : n < (get_or ps k p).offset =
          ranked (get_or ps k p).offset n Greater (sym (point.1 k p after (slice_get_within ps k p at))) in
          omega (arith, more, off)
    ])
