-- A walk over the numbers of a prefix, from place to place.
use Rattle.std.proofs.Common.{◌≡◌, ◌+◌, ℕ, arith, length, Bool, true, false, cond, List, [], ◌∷◌, Some, None, refl, sym, ap, ◌∙◌, filter}
use Rattle.std.specs.Prelude.{count_by}
use Rattle.std.specs.declared.cmp.Ordering.TheVariants.{Less}
use Rattle.std.specs.Ordering.{is_le}
use Rattle.std.specs.List.Sorted.{IsStrictlySortedBy}
use Rattle.std.specs.Map.{keys_of}
use Rattle.std.proofs.lemmas.List.Sums.{sum_by-cons}
use Rattle.smq_kit.proofs.Ordered as ordered
use Rattle.smq_shelf.specs.Places.{content_of}
use Rattle.smq_shelf.proofs.Changes.{content_ordered}
use Rattle.smq_shelf.proofs.Walks.{filled-are}
use Rattle.smq_route.specs.declared.numbers.NumberAt.{NumberAt}
use Rattle.smq_route.specs.Numbers.{number_cmp, of_prefix, places_under}
use Rattle.smq_route.specs.Versions.{begins}
use Rattle.smq_route.specs.within.NumberKeys.{numbers_in}
use Rattle.smq_route.specs.within.NumberWalks.{Spot, filled, is_under, vacant_numbers}
use Rattle.smq_route.proofs.NumberOrders.{from, from-at_or_above, from-none_above, numbers_exact, numbers_total}

-- ---- look-ups

module _ (prefix : List ℕ) (least : NumberAt) (is : least ≡ from prefix) where
  -- the numbers of a prefix stand from the least key on
  pub under-from : (k : NumberAt) → begins k.number prefix ≡ true → is_le (number_cmp least k) ≡ true
  under-from k of = ap (λ l. is_le (number_cmp l k)) is ∙ from-at_or_above prefix k of

  -- and after one there that isn't of them comes none
  pub under-beside : (k j : NumberAt) → is_le (number_cmp least k) ≡ true → begins k.number prefix ≡ false → number_cmp k j ≡ Less
      → begins j.number prefix ≡ false
  under-beside k j there other less = from-none_above prefix k j (ap (λ l. is_le (number_cmp l k)) (sym is) ∙ there) other less

-- ---- what a walk tells

module _ (prefix : List ℕ) where
  -- the places under a prefix are those of its places that aren't vacant
  pub filled-under : (spots : List Spot) → IsStrictlySortedBy number_cmp (keys_of spots) → filled (filter (is_under prefix) spots) ≡ places_under (numbers_in (content_of spots)) prefix
  filled-under spots so =
      filled-are (λ k. k.place) (λ k. begins k.number prefix) spots
      ∙ sym (ap (λ (es : List (NumberAt × Unit {0})). of_prefix prefix (keys_of es))
      (ordered.entries-kept numbers_total numbers_exact refl (content_of spots) (content_ordered numbers_total spots so)))

  -- ---- how many places a walk passes

  abbrev begun : List ℕ → Bool
  begun number = begins number prefix

  -- those that are vacant, and those that are told
  pub parted : (es : List Spot) → length (filter (is_under prefix) es) ≡ count_by begun (vacant_numbers es) + length (filled (filter (is_under prefix) es))
  parted [] = omega arith
  parted ((k, None) ∷ es) = grind (arith, sum_by-cons (λ n. cond (begun n) 1 0) k.number (vacant_numbers es), parted es)
  parted ((k, Some v) ∷ es) = grind (arith, parted es)
