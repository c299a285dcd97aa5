-- The least of a list, by a total order: it is one of the list, and comes after none of it.
use Rattle.std.proofs.Common.{◌≡◌, ℕ, zero, suc, Bool, false, List, [], ◌∷◌, Some, refl, ap, ◌∙◌, subst}
use Rattle.std.specs.Prelude.{slice_get}
use Rattle.std.specs.List.{AllByRecursion, fold, list_any, reduce}
use Rattle.std.specs.declared.cmp.Ordering.{Ordering}
use Rattle.std.specs.declared.cmp.Ordering.TheVariants.{Greater}
use Rattle.std.specs.Ordering.{is_gt, min_by_ordering, ordering_reverse}
use Rattle.std.proofs.lemmas.Bool.{or_from}
use Rattle.smq_kit.proofs.Comparisons.{or_first, or_second}
use Rattle.std.specs.Cmp.{IsTotalOrder, tied_itself, upto}

module _ {X : Type 0} (R : X → X → Ordering) (o : IsTotalOrder R) where
  abbrev pub lesser : X → X → X
  lesser a b = min_by_ordering (R a b) a b

  -- one of a list stands at this place, and comes after none of it
  pub record IsLeast (xs : List X) (x : X) : Type 0 where
    pub place : ℕ
    pub among : slice_get xs place ≡ Some x
    pub after_none : list_any (λ y. is_gt (R x y)) xs ≡ false

  -- ---- the lesser of two comes after neither

  itself : (a : X) → is_gt (R a a) ≡ false
  itself a = ap is_gt (tied_itself o a)

  first_by : (a b : X) (r : Ordering) → R a b ≡ r → is_gt (R (min_by_ordering r a b) a) ≡ false
  first_by a b Greater e = ap is_gt (o.antisymm b a ∙ ap ordering_reverse e)
  first_by a b _ e = itself a

  second_by : (a b : X) (r : Ordering) → R a b ≡ r → is_gt (R (min_by_ordering r a b) b) ≡ false
  second_by a b Greater e = itself b
  second_by a b _ e = ap is_gt e

  -- ---- the least of many

  abbrev after_any : X → List X → Bool
  after_any d xs = list_any (λ y. is_gt (R d y)) xs

  after_none : (x : X) (xs : List X) → after_any (fold lesser x xs) (x ∷ xs) ≡ false
  after_none x [] = or_from (is_gt (R x x)) false (itself x) refl
  after_none x (y ∷ xs) =
      let d : X = fold lesser (lesser x y) xs in
      let so : after_any d (lesser x y ∷ xs) ≡ false = after_none (lesser x y) xs in
      let before : is_gt (R d (lesser x y)) ≡ false = or_first (is_gt (R d (lesser x y))) (after_any d xs) so in
      let not_x : is_gt (R d x) ≡ false = upto o d (lesser x y) x before (first_by x y (R x y) refl) in
      let not_y : is_gt (R d y) ≡ false = upto o d (lesser x y) y before (second_by x y (R x y) refl) in
      or_from (is_gt (R d x)) (after_any d (y ∷ xs)) not_x
      (or_from (is_gt (R d y)) (after_any d xs) not_y (or_second (is_gt (R d (lesser x y))) (after_any d xs) so))

  -- where it stands
  abbrev At : List X → X → Type 0
  At xs d = (place : ℕ) × (slice_get xs place ≡ Some d)

  skipping : (x y d : X) (xs : List X) (place : ℕ) → slice_get (x ∷ xs) place ≡ Some d → At (x ∷ y ∷ xs) d
  skipping x y d xs zero e = (zero, e)
  skipping x y d xs (suc n) e = (suc (suc n), e)

  at_by : (x y d : X) (xs : List X) (r : Ordering) → At (min_by_ordering r x y ∷ xs) d → At (x ∷ y ∷ xs) d
  at_by x y d xs Greater at = (suc at.0, at.1)
  at_by x y d xs _ at = skipping x y d xs at.0 at.1

  least_at : (x : X) (xs : List X) → At (x ∷ xs) (fold lesser x xs)
  least_at x [] = (zero, refl)
  least_at x (y ∷ xs) = at_by x y (fold lesser (lesser x y) xs) xs (R x y) (least_at (lesser x y) xs)

  pub least-found : (xs : List X) (d : X) → reduce lesser xs ≡ Some d → IsLeast xs d
  least-found [] d e = absurd cc
  least-found (x ∷ xs) d e = let one : fold lesser x xs ≡ d = cc in subst (IsLeast (x ∷ xs)) one
      (record { place = (least_at x xs).0; among = (least_at x xs).1; after_none = after_none x xs })

  -- ---- what all of a list have, the least has

  module _ (P : X → Type 0) where
    lesser-all : (a b : X) (r : Ordering) → P a → P b → P (min_by_ordering r a b)
    lesser-all a b Greater p q = q
    lesser-all a b _ p q = p

    fold-all : (x : X) (xs : List X) → P x → AllByRecursion P xs → P (fold lesser x xs)
    fold-all x [] p a = p
    fold-all x (y ∷ xs) p a = fold-all (lesser x y) xs (lesser-all x y (R x y) p a.0) a.1

    pub reduce-all : (xs : List X) (d : X) → AllByRecursion P xs → reduce lesser xs ≡ Some d → P d
    reduce-all [] d a e = absurd cc
    reduce-all (x ∷ xs) d a e = let one : fold lesser x xs ≡ d = cc in subst P one (fold-all x xs a.0 a.1)
