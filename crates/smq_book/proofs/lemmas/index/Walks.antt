-- A walk over the keys of a link's messages whose receipts are due.
use Rattle.std.proofs.Common.{◌≡◌, ℕ, ◌≤◌, arith, true, false, List, Option, refl, sym, ap, ◌∙◌, filter, map-id, subst}
use Rattle.std.specs.Prelude.{◌==◌, nat_le}
use Rattle.std.specs.declared.cmp.Ordering.{Ordering}
use Rattle.std.specs.declared.cmp.Ordering.TheVariants.{Less, Equal, Greater}
use Rattle.std.specs.Ordering.{is_le, nat_cmp, ordering_then}
use Rattle.std.specs.Cmp.{IsTotalOrder, nat_cmp_is, ranked}
use Rattle.std.specs.List.Sorted.{IsStrictlySortedBy}
use Rattle.std.specs.Map.{keys_of}
use Rattle.std.proofs.lemmas.Bool.{false≢true, eqb-true}
use Rattle.std.proofs.lemmas.Bool.Decides.{nat_tests}
use Rattle.smq_kit.specs.declared.names.LinkId.{LinkId}
use Rattle.smq_kit.specs.Orders.{least_place, place_cmp}
use Rattle.smq_kit.proofs.Comparisons.{then_least}
use Rattle.smq_kit.proofs.Ordered as ordered
use Rattle.smq_kit.proofs.PlaceOrders.{least-le}
use Rattle.smq_shelf.specs.Places.{content_of}
use Rattle.smq_shelf.proofs.Changes.{content_ordered}
use Rattle.smq_shelf.proofs.Walks.{filled-are}
use Rattle.smq_book.specs.declared.index.due_at.DueAt.{DueAt}
use Rattle.smq_book.specs.index.Due.{due_at, due_cmp, keys_on}
use Rattle.smq_book.specs.index.DueKeys.{kept_due_cmp}
use Rattle.smq_book.specs.index.Held.{dues_in}
use Rattle.smq_book.proofs.lemmas.index.Due.{due-order, due_exact, due_total}
use Rattle.smq_book.proofs.lemmas.index.EndWalks.{first-rises, le_nat}

-- ---- their order

-- links rise, and the moments of one link
link-rises : (k j : DueAt) → due_cmp k j ≡ Less → k.link.0 ≤ j.link.0
link-rises k j less = first-rises k.link.0 j.link.0 (ordering_then (nat_cmp k.moment j.moment) (place_cmp k.place j.place)) less

module _ (link : LinkId) (k : DueAt) where
  abbrev rest_cmp : ℕ → Ordering
  rest_cmp m = ordering_then (nat_cmp m k.moment) (place_cmp least_place k.place)

  -- a key of the link is there from its moment on
  from-moment : (m : ℕ) → k.link.0 ≡ link.0 → is_le (due_cmp (due_at link m least_place) k) ≡ nat_le m k.moment
  from-moment m same =
      ap (λ o. is_le (ordering_then o (rest_cmp m))) (sym (nat_cmp_is link.0 k.link.0 Equal (sym same)))
      ∙ then_least (nat_cmp m k.moment) (place_cmp least_place k.place) (least-le k.place)
      ∙ le_nat m k.moment

  -- one that is there is of the link, or of one above it
  from-link : (m : ℕ) → is_le (due_cmp (due_at link m least_place) k) ≡ true → link.0 ≤ k.link.0
  from-link m there = by (nat_cmp link.0 k.link.0) refl
    where
      by : (o : Ordering) → nat_cmp link.0 k.link.0 ≡ o → link.0 ≤ k.link.0
      by Less e = let f = ranked link.0 k.link.0 Less (sym e) in omega (arith, f)
      by Equal e = let f = ranked link.0 k.link.0 Equal (sym e) in omega (arith, f)
      by Greater e = absurd (false≢true (sym (ap (λ o. is_le (ordering_then o (rest_cmp m))) e) ∙ there))

-- ---- a walk

kept_due_total : IsTotalOrder kept_due_cmp
kept_due_total = subst IsTotalOrder (sym due-order) due_total

module _ (link : LinkId) (first : DueAt) (is : first ≡ due_at link 0 least_place) where
  there : (k : DueAt) → is_le (kept_due_cmp first k) ≡ is_le (due_cmp (due_at link 0 least_place) k)
  there k = λ i. is_le (due-order i (is i) k)

  -- the keys of a link stand from its first on
  pub due-from : (k : DueAt) → (k.link.0 == link.0) ≡ true → is_le (kept_due_cmp first k) ≡ true
  due-from k on = there k ∙ from-moment link k 0 (eqb-true k.link.0 link.0 on) ∙ grind (arith, nat_tests)

  -- and after one there that isn't of it comes none
  pub due-beside : (k j : DueAt) → is_le (kept_due_cmp first k) ≡ true → (k.link.0 == link.0) ≡ false → kept_due_cmp k j ≡ Less
      → (j.link.0 == link.0) ≡ false
  due-beside k j from other less =
      let above = from-link link k 0 (sym (there k) ∙ from) in
      let rises = link-rises k j (ap (λ (R : DueAt → DueAt → Ordering). R k j) (sym due-order) ∙ less) in
      grind (arith, nat_tests, other, above, rises)

-- the keys of a link are those of its places that aren't vacant
pub filled-on : (link : LinkId) (es : List (DueAt × Unit {0})) (spots : List (DueAt × Option (Unit {0}))) → es ≡ content_of spots
    → IsStrictlySortedBy kept_due_cmp (keys_of spots)
    → keys_of (content_of (filter (λ e. e.0.link.0 == link.0) spots)) ≡ keys_on link (dues_in es)
filled-on link es spots is so =
    filled-are (λ k. k) (λ k. k.link.0 == link.0) spots
    ∙ map-id (filter (λ k. k.link.0 == link.0) (keys_of (content_of spots)))
    ∙ sym (ap (λ (es : List (DueAt × Unit {0})). filter (λ k. k.link.0 == link.0) (keys_of es))
    (ordered.entries-kept due_total due_exact due-order (content_of spots) (content_ordered kept_due_total spots so)))
    ∙ ap (λ es. keys_on link (dues_in es)) (sym is)
