-- Parts in turn, as the views and the lists are, and where the keys of each begin and end in the code's map.
use Rattle.std.proofs.Common.{◌≡◌, ℕ, ◌+◌, ◌-◌, ◌<◌, ◌≤◌, true, false, List, [], ◌∷◌, zero, suc, length, Some, None, refl, ap, ◌∙◌, arith}
use Rattle.std.specs.Prelude.{◌==◌, ◌&&◌, not, filter, slice_get}
use Rattle.std.specs.declared.cmp.Ordering.{Ordering}
use Rattle.std.specs.declared.cmp.Ordering.TheVariants.{Less, Equal, Greater}
use Rattle.std.specs.declared.ops.Bound.TheVariants.{Included, Excluded, Unbounded}
use Rattle.std.specs.Ordering.{nat_cmp, is_le, is_gt}
use Rattle.std.specs.BTreeMap.Range.{range_contains}
use Rattle.std.proofs.lemmas.Bool.Decides.{nat_tests}

-- the places of these parts count up from a number
abbrev pub AreFrom : {P : Type 0} → (P → ℕ) → ℕ → List P → Type 0
AreFrom rank n [] = Unit {0}
AreFrom rank n (p ∷ ps) = (rank p ≡ n) × AreFrom rank (n + 1) ps

-- Each part has its place, each key is of a part, and what a part begins with is at or before what is of no earlier part.
pub record Parted {K P : Type 0} (kept : K → K → Ordering) (parts : List P) (rank : P → ℕ) (part : K → P) (first : P → K) : Type 0 where
  pub counted : AreFrom rank 0 parts
  pub placed : (p : P) → rank p < length parts
  pub begins : (p : P) (q : K) → is_le (kept (first p) q) ≡ is_le (nat_cmp (rank p) (rank (part q)))
  pub own : (p : P) → part (first p) ≡ p

at-place : {P : Type 0} (rank : P → ℕ) (ps : List P) (n m : ℕ) (p : P) → AreFrom rank n ps → Some p ≡ slice_get ps m → rank p ≡ n + m
at-place rank [] n m p h e = absurd cc
at-place rank (x ∷ xs) n zero p h e = let same : p ≡ x = cc in ap rank same ∙ h.0 ∙ omega arith
at-place rank (x ∷ xs) n (suc m) p h e = at-place rank xs (n + 1) m p h.1 e ∙ omega arith

pub past-length : {P : Type 0} (ps : List P) (m : ℕ) → None ≡ slice_get ps m → length ps ≤ m
past-length [] m e = omega arith
past-length (p ∷ ps) zero e = absurd cc
past-length (p ∷ ps) (suc m) e = let rest = past-length ps m e in omega (arith, rest)

not_above : (o : Ordering) → is_le o ≡ true → is_gt o ≡ false
not_above Less e = refl
not_above Equal e = refl
not_above Greater e = absurd cc

at_next : (n : ℕ) → is_le (nat_cmp n (n + 1)) ≡ true
at_next n = grind (arith, nat_tests)

one_number : (a b : ℕ) → (is_le (nat_cmp a b) && not (is_le (nat_cmp (a + 1) b))) ≡ (b == a)
one_number a b = grind (arith, nat_tests)

last_number : (a b : ℕ) → b ≤ a → (is_le (nat_cmp a b) && not false) ≡ (b == a)
last_number a b h = grind (arith, nat_tests)

module _ {K P : Type 0} {kept : K → K → Ordering} {parts : List P} {rank : P → ℕ} {part : K → P} {first : P → K}
    (d : Parted kept parts rank part first) where
  pub next_rank : (p next : P) → Some next ≡ slice_get parts (rank p + 1) → rank next ≡ rank p + 1
  next_rank p next e = at-place rank parts 0 (rank p + 1) next d.counted e ∙ omega arith

  -- fewer parts are left after the next
  pub fewer_left : (p next : P) → Some next ≡ slice_get parts (rank p + 1) → length parts - rank next < length parts - rank p
  fewer_left p next e = let one = next_rank p next e in let there = d.placed next in omega (arith, one, there)

  -- a part begins before the next one does
  pub run-forward : (p next : P) (lo hi : K) → lo ≡ first p → hi ≡ first next → Some next ≡ slice_get parts (rank p + 1)
      → is_gt (kept lo hi) ≡ false
  run-forward p next lo hi one other e =
      (λ i. is_gt (kept (one i) (other i)))
      ∙ not_above (kept (first p) (first next)) (d.begins p (first next)
      ∙ ap (λ n. is_le (nat_cmp (rank p) n)) (ap rank (d.own next) ∙ next_rank p next e) ∙ at_next (rank p))

  -- of a part are the keys from its first possible one up to the next part's
  pub run-next : {X : Type 0} (p next : P) (lo hi : K) → lo ≡ first p → hi ≡ first next → Some next ≡ slice_get parts (rank p + 1)
      → (es : List (K × X))
      → filter (λ e. range_contains kept (Included lo) (Excluded hi) e.0) es ≡ filter (λ e. rank (part e.0) == rank p) es
  run-next p next lo hi one other e es =
      (λ i. filter (λ x. range_contains kept (Included (one i)) (Excluded (other i)) x.0) es) ∙ (λ i. filter (λ x. of x.0 i) es)
    where
      of : (q : K) → range_contains kept (Included (first p)) (Excluded (first next)) q ≡ (rank (part q) == rank p)
      of q =
          (λ i. d.begins p q i && not (d.begins next q i))
          ∙ ap (λ n. is_le (nat_cmp (rank p) (rank (part q))) && not (is_le (nat_cmp n (rank (part q))))) (next_rank p next e)
          ∙ one_number (rank p) (rank (part q))

  -- of the last part are all from its first possible one
  pub run-end : {X : Type 0} (p : P) (lo : K) → lo ≡ first p → None ≡ slice_get parts (rank p + 1) → (es : List (K × X))
      → filter (λ e. range_contains kept (Included lo) Unbounded e.0) es ≡ filter (λ e. rank (part e.0) == rank p) es
  run-end p lo one e es =
      (λ i. filter (λ x. range_contains kept (Included (one i)) Unbounded x.0) es) ∙ (λ i. filter (λ x. of x.0 i) es)
    where
      of : (q : K) → range_contains kept (Included (first p)) Unbounded q ≡ (rank (part q) == rank p)
      of q =
          (λ i. d.begins p q i && not false)
          ∙ last_number (rank p) (rank (part q))
          (let few = past-length parts (rank p + 1) e in let there = d.placed (part q) in omega (arith, few, there))
