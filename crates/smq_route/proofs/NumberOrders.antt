-- Numbers in the order of their octets: those that begin with a prefix stand together, from the prefix on.
use Rattle.std.proofs.Common.{◌≡◌, ℕ, Bool, true, false, List, [], ◌∷◌, refl, sym, ap, arith}
use Rattle.std.specs.Prelude.{◌&&◌, nat_eq}
use Rattle.std.specs.declared.cmp.Ordering.{Ordering}
use Rattle.std.specs.declared.cmp.Ordering.TheVariants.{Less}
use Rattle.std.specs.Ordering.{is_gt, is_le, is_lt, nat_cmp, ordering_then}
use Rattle.std.proofs.lemmas.Bool.{false≢true}
use Rattle.std.proofs.lemmas.Bool.Decides.{nat_tests}
use Rattle.smq_kit.specs.Orders.{least_place, octets_cmp, place_cmp}
use Rattle.smq_kit.proofs.Comparisons.{then_le}
use Rattle.smq_kit.proofs.PlaceOrders.{least-le}
use Rattle.smq_route.specs.declared.numbers.NumberAt.{NumberAt}
use Rattle.smq_route.specs.Numbers.{number_cmp}
use Rattle.smq_route.specs.Versions.{begins}
pub use Rattle.smq_route.specs.within.NumberKeys.{numbers_exact, numbers_total}

-- ---- a prefix and its numbers

begun_digit : (x y : ℕ) (r : Ordering) (t : Bool) → (nat_eq x y && t) ≡ true → (t ≡ true → is_gt r ≡ false) → is_gt (ordering_then (nat_cmp x y) r) ≡ false
begun_digit x y r t h more = grind (arith, nat_tests)

-- a number that begins with a prefix isn't below it
pub not_below : (number prefix : List ℕ) → begins number prefix ≡ true → is_gt (octets_cmp prefix number) ≡ false
not_below [] [] h = refl
not_below (y ∷ a) [] h = refl
not_below [] (x ∷ p) h = absurd (false≢true h)
not_below (y ∷ a) (x ∷ p) h = begun_digit x y (octets_cmp p a) (begins a p) h (not_below a p)

digit_past : (x y z : ℕ) (r s : Ordering) (t u : Bool) → (is_gt r ≡ false → t ≡ false → is_gt s ≡ false → u ≡ false)
    → is_gt (ordering_then (nat_cmp x y) r) ≡ false → (nat_eq x y && t) ≡ false → is_gt (ordering_then (nat_cmp y z) s) ≡ false → (nat_eq x z && u) ≡ false
digit_past x y z r s t u more le n l = grind (arith, nat_tests)

-- past a number that comes after a prefix and doesn't begin with it, none begins with it
pub none_past : (prefix a b : List ℕ) → is_gt (octets_cmp prefix a) ≡ false → begins a prefix ≡ false → is_gt (octets_cmp a b) ≡ false → begins b prefix ≡ false
none_past [] a b le n l = absurd (false≢true (sym n))
none_past (x ∷ p) [] b le n l = absurd (false≢true (sym le))
none_past (x ∷ p) (y ∷ a) [] le n l = absurd (false≢true (sym l))
none_past (x ∷ p) (y ∷ a) (z ∷ b) le n l = digit_past x y z (octets_cmp p a) (octets_cmp a b) (begins a p) (begins b p) (none_past p a b) le n l

-- ---- numbers at places

first_le : (r s : Ordering) → is_le (ordering_then r s) ≡ true → is_gt r ≡ false
first_le r s h = grind (arith, h)

first_lt : (r s : Ordering) → is_lt (ordering_then r s) ≡ true → is_gt r ≡ false
first_lt r s h = grind (arith, h)

le_of_not_above : (r : Ordering) → is_gt r ≡ false → is_le r ≡ true
le_of_not_above r h = grind (arith, h)

module _ (prefix : List ℕ) where
  abbrev pub from : NumberAt
  from = record { number = prefix; place = least_place }

  -- the numbers of a prefix stand at or above it
  pub from-at_or_above : (k : NumberAt) → begins k.number prefix ≡ true → is_le (number_cmp from k) ≡ true
  from-at_or_above k h = then_le (octets_cmp prefix k.number) (place_cmp least_place k.place) (le_of_not_above (octets_cmp prefix k.number) (not_below k.number prefix h)) (least-le k.place)

  less_numbers : (k j : NumberAt) → number_cmp k j ≡ Less → is_gt (octets_cmp k.number j.number) ≡ false
  less_numbers k j l = first_lt (octets_cmp k.number j.number) (place_cmp k.place j.place) (ap is_lt l)

  -- above another number at or above it, none is of the prefix
  pub from-none_above : (k j : NumberAt) → is_le (number_cmp from k) ≡ true → begins k.number prefix ≡ false → number_cmp k j ≡ Less → begins j.number prefix ≡ false
  from-none_above k j g n l = none_past prefix k.number j.number (first_le (octets_cmp prefix k.number) (place_cmp least_place k.place) g) n (less_numbers k j l)
