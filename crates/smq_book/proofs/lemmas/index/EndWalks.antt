-- A walk over the ends that come after a clock and not after another.
use Rattle.std.proofs.Common.{◌≡◌, ℕ, ◌+◌, ◌≤◌, arith, true, false, List, Option, refl, sym, ap, ◌∙◌, map-id, filter, subst}
use Rattle.std.specs.Prelude.{◌&&◌, nat_le}
use Rattle.std.specs.declared.cmp.Ordering.{Ordering}
use Rattle.std.specs.declared.cmp.Ordering.TheVariants.{Less, Equal, Greater}
use Rattle.std.specs.Ordering.{is_le, nat_cmp, ordering_then}
use Rattle.std.specs.Cmp.{IsTotalOrder, ranked}
use Rattle.std.specs.List.Sorted.{IsStrictlySortedBy}
use Rattle.std.specs.Map.{keys_of}
use Rattle.std.proofs.lemmas.Bool.Decides.{nat_tests}
use Rattle.smq_kit.specs.Orders.{kept_place_cmp, least_place, place_cmp}
use Rattle.smq_kit.proofs.Comparisons.{then_least}
use Rattle.smq_kit.proofs.Ordered as ordered
use Rattle.smq_kit.proofs.PlaceOrders.{least-le}
use Rattle.smq_shelf.specs.Places.{content_of}
use Rattle.smq_shelf.proofs.Changes.{content_ordered}
use Rattle.std.specs.FinMap.{keys}
use Rattle.smq_shelf.proofs.Walks.{and_false, both, filled-are}
use Rattle.smq_book.specs.declared.index.end_at.EndAt.{EndAt}
use Rattle.smq_book.specs.index.EndKeys.{kept_end_cmp}
use Rattle.smq_book.specs.index.Ends.{end_at, is_between}
use Rattle.smq_book.specs.index.Held.{ends_in}
use Rattle.smq_book.proofs.lemmas.index.Ends.{end-order, end_exact, end_total}

-- ---- the order

greater_less : Greater ≡ Less → ⊥
greater_less e = absurd cc

pub first-rises : (a b : ℕ) (r : Ordering) → ordering_then (nat_cmp a b) r ≡ Less → a ≤ b
first-rises a b r less = by (nat_cmp a b) refl
  where
    by : (o : Ordering) → nat_cmp a b ≡ o → a ≤ b
    by Less e = let f = ranked a b Less (sym e) in omega (arith, f)
    by Equal e = let f = ranked a b Equal (sym e) in omega (arith, f)
    by Greater e = absurd (greater_less (sym (ap (λ o. ordering_then o r) e) ∙ less))

-- ends rise
end-rises : (k j : EndAt) → kept_end_cmp k j ≡ Less → k.end ≤ j.end
end-rises k j less = first-rises k.end j.end (kept_place_cmp k.place j.place) less

pub le_nat : (a b : ℕ) → is_le (nat_cmp a b) ≡ nat_le a b
le_nat a b = grind (arith, nat_tests)

kept_end_total : IsTotalOrder kept_end_cmp
kept_end_total = subst IsTotalOrder (sym end-order) end_total

-- ---- a walk

module _ (from clock : ℕ) (first : EndAt) (is : first ≡ end_at (from + 1) least_place) where
  there : (k : EndAt) → is_le (kept_end_cmp first k) ≡ nat_le (from + 1) k.end
  there k =
      (λ i. is_le (end-order i (is i) k))
      ∙ then_least (nat_cmp (from + 1) k.end) (place_cmp least_place k.place) (least-le k.place)
      ∙ le_nat (from + 1) k.end

  -- the ends that come after a clock and not after another stand from the first on
  pub end-from : (k : EndAt) → is_between from clock k ≡ true → is_le (kept_end_cmp first k) ≡ true
  end-from k between = there k ∙ (both (nat_le (from + 1) k.end) (nat_le k.end clock) between).0

  -- and after one there that isn't of them comes none
  pub end-beside : (k j : EndAt) → is_le (kept_end_cmp first k) ≡ true → is_between from clock k ≡ false → kept_end_cmp k j ≡ Less
      → is_between from clock j ≡ false
  end-beside k j after out less =
      let later : nat_le k.end clock ≡ false = sym (ap (λ b. b && nat_le k.end clock) (sym (there k) ∙ after)) ∙ out in
      let rises = end-rises k j less in
      let none : nat_le j.end clock ≡ false = grind (arith, nat_tests, later, rises) in
      ap (λ b. nat_le (from + 1) j.end && b) none ∙ and_false (nat_le (from + 1) j.end)

-- these ends are those of its places that aren't vacant
pub filled-between : (from clock : ℕ) (es : List (EndAt × Unit {0})) (spots : List (EndAt × Option (Unit {0}))) → es ≡ content_of spots
    → IsStrictlySortedBy kept_end_cmp (keys_of spots)
    → keys_of (content_of (filter (λ e. is_between from clock e.0) spots)) ≡ filter (is_between from clock) (keys (ends_in es))
filled-between from clock es spots is so =
    filled-are (λ k. k) (is_between from clock) spots
    ∙ map-id (filter (is_between from clock) (keys_of (content_of spots)))
    ∙ sym (ap (λ (es : List (EndAt × Unit {0})). filter (is_between from clock) (keys_of es))
    (ordered.entries-kept end_total end_exact end-order (content_of spots) (content_ordered kept_end_total spots so)))
    ∙ ap (λ es. filter (is_between from clock) (keys (ends_in es))) (sym is)
