-- Codes of numbers: they give their numbers back, they are in the order of these, and those of a prefix adjoin.
use Rattle.std.proofs.Common.{◌≡◌, ◌≤◌, ◌<◌, ◌+◌, ◌-◌, ◌*◌, ◌/◌, ◌^◌, ℕ, zero, suc, Bool, true, false, eqb, List, [], ◌∷◌, length, drop, get_or, refl, sym, ap, subst, ◌∙◌, arith, mul-le-mul_right, pow-suc}
use Rattle.std.proofs.Math.Nat.{mul-div_cancel, one-le-pow, zero-div}
use Rattle.std.specs.Prelude.{⊤, ◌&&◌, nat_eq, nat_le, nat_lt}
use Rattle.std.specs.List.{list_all}
use Rattle.std.specs.Char.{is_ascii_digit}
use Rattle.std.specs.declared.cmp.Ordering.{Ordering}
use Rattle.std.specs.Ordering.{nat_cmp, ordering_then}
use Rattle.std.proofs.lemmas.Bool.Decides.{nat_tests}
use Rattle.std.proofs.lemmas.List.{drop_all, drop_more}
use Rattle.std.proofs.lemmas.List.Sums.{list_all-from_AllPass}
use Rattle.std.proofs.lemmas.Nat.{div-mul-add, mod-mul-add}
use Rattle.smq_kit.specs.Numbers.{IsDigits}
use Rattle.smq_kit.specs.declared.place.Place.{Place}
use Rattle.smq_kit.specs.Orders.{kept_place_cmp, octets_cmp, place_cmp}
use Rattle.smq_kit.proofs.PlaceOrders.{place-order}
use Rattle.smq_route.specs.Numbers.{number_at, number_cmp}
use Rattle.smq_route.specs.Versions.{begins}
use Rattle.smq_route.specs.within.NumberCodes.{IsCode, code_of, number_of, packed, span_of, unpacked}

-- digits that fit so many positions
abbrev Fit : ℕ → List ℕ → Type 0
Fit k [] = ⊤
Fit zero (d ∷ ds) = ⊥
Fit (suc k) (d ∷ ds) = (48 ≤ d) × ((d ≤ 57) × Fit k ds)

all_fit : (k : ℕ) (ds : List ℕ) → length ds ≤ k → list_all is_ascii_digit ds ≡ true → Fit k ds
all_fit k [] l h = tt
all_fit zero (d ∷ ds) l h = absurd (omega arith)
all_fit (suc k) (d ∷ ds) l h =
    let parts : (48 ≤ d) × ((d ≤ 57) × (list_all is_ascii_digit ds ≡ true)) = grind (arith, nat_tests, h) in
    (parts.0, (parts.1.0, all_fit k ds (omega (arith, l)) parts.1.1))

digits_fit : (number : List ℕ) → IsDigits number → Fit 15 number
digits_fit number h = all_fit 15 number h.in_range (list_all-from_AllPass is_ascii_digit number h.digits)

-- ---- rows: x times p, and less than p

gap : (x y p : ℕ) → x < y → x * p + p ≤ y * p
gap x y p l = let m = mul-le-mul_right p l in omega (arith, m)

row-cmp : (x y p a b : ℕ) (r : Ordering) → a < p → b < p → nat_cmp a b ≡ r → nat_cmp (x * p + a) (y * p + b) ≡ ordering_then (nat_cmp x y) r
row-cmp x y p a b r f g h = grind (arith, nat_tests, gap x y p, gap y x p)

-- whether a code is one of so many from a first one on
abbrev is_from : ℕ → ℕ → ℕ → Bool
is_from first span code = nat_le first code && nat_lt code (first + span)

row-from : (x y p a b s : ℕ) → a + s ≤ p → b < p → is_from (x * p + a) s (y * p + b) ≡ (nat_eq x y && is_from a s b)
row-from x y p a b s f g = grind (arith, nat_tests, gap x y p, gap y x p)

-- ---- codes are below 11^k

packed-none : (k : ℕ) → packed k [] ≡ 0
unfolding packed
packed-none zero = refl
packed-none (suc k) = refl

packed-below : (k : ℕ) (ds : List ℕ) → Fit k ds → packed k ds < 11 ^ k
unfolding packed
packed-below k [] f = omega (arith, packed-none k, one-le-pow k 11 (omega arith))
packed-below zero (d ∷ ds) f = absurd f
packed-below (suc k) (d ∷ ds) f =
    let below = gap (d - 47) 11 (11 ^ k) (omega (arith, f.1.0)) in rw (pow-suc 11 k) (omega (arith, below, packed-below k ds f.1.1))

-- ---- they give their numbers back

unpacked-packed : (k : ℕ) (ds : List ℕ) → Fit k ds → unpacked k (packed k ds) ≡ ds
unfolding packed unpacked
unpacked-packed zero [] f = refl
unpacked-packed zero (d ∷ ds) f = absurd f
unpacked-packed (suc k) [] f = rw (zero-div (11 ^ k)) refl
unpacked-packed (suc k) (d ∷ ds) f =
    let below = packed-below k ds f.1.1 in
    let some : eqb (d - 47) 0 ≡ false = grind (arith, nat_tests, f.0) in
    let digit : d - 47 + 47 ≡ d = omega (arith, f.0) in
    rw (div-mul-add (d - 47) (11 ^ k) (packed k ds) below, mod-mul-add (d - 47) (11 ^ k) (packed k ds) below, some, digit, unpacked-packed k ds f.1.1) refl

-- ---- they are in the order of the numbers

packed-cmp : (k : ℕ) (a b : List ℕ) → Fit k a → Fit k b → nat_cmp (packed k a) (packed k b) ≡ octets_cmp a b
unfolding packed
packed-cmp k [] [] f g = grind (arith, nat_tests)
packed-cmp zero [] (y ∷ b) f g = absurd g
packed-cmp zero (x ∷ a) b f g = absurd f
packed-cmp (suc k) [] (y ∷ b) f g = let above = gap 0 (y - 47) (11 ^ k) (omega (arith, g.0)) in let below = packed-below k b g.1.1 in grind (arith, nat_tests, above, below)
packed-cmp (suc k) (x ∷ a) [] f g = let above = gap 0 (x - 47) (11 ^ k) (omega (arith, f.0)) in let below = packed-below k a f.1.1 in grind (arith, nat_tests, above, below)
packed-cmp (suc k) (x ∷ a) (y ∷ b) f g =
    let digits : nat_cmp (x - 47) (y - 47) ≡ nat_cmp x y = grind (arith, nat_tests, f.0, g.0) in
    row-cmp (x - 47) (y - 47) (11 ^ k) (packed k a) (packed k b) _ (packed-below k a f.1.1) (packed-below k b g.1.1) (packed-cmp k a b f.1.1 g.1.1)
    ∙ ap (λ r. ordering_then r (octets_cmp a b)) digits

-- ---- those of a prefix adjoin

span_ends : (k : ℕ) (p : List ℕ) → Fit k p → packed k p + 11 ^ (k - length p) ≤ 11 ^ k
unfolding packed
span_ends k [] f = let all : k - 0 ≡ k = omega arith in rw all (omega (arith, packed-none k))
span_ends zero (d ∷ p) f = absurd f
span_ends (suc k) (d ∷ p) f =
    let left : suc k - suc (length p) ≡ k - length p = omega arith in
    let below = gap (d - 47) 11 (11 ^ k) (omega (arith, f.1.0)) in rw (left, pow-suc 11 k) (omega (arith, below, span_ends k p f.1.1))

begins-packed : (k : ℕ) (n p : List ℕ) → Fit k n → Fit k p → is_from (packed k p) (11 ^ (k - length p)) (packed k n) ≡ begins n p
unfolding packed
begins-packed k n [] f g = let all : k - 0 ≡ k = omega arith in let below = packed-below k n f in rw all (grind (arith, nat_tests, packed-none k, below))
begins-packed zero n (x ∷ p) f g = absurd g
begins-packed (suc k) [] (x ∷ p) f g = let above = gap 0 (x - 47) (11 ^ k) (omega (arith, g.0)) in let below = packed-below k p g.1.1 in grind (arith, nat_tests, above, below)
begins-packed (suc k) (y ∷ n) (x ∷ p) f g =
    let left : suc k - suc (length p) ≡ k - length p = omega arith in
    let digits : nat_eq (x - 47) (y - 47) ≡ nat_eq x y = grind (arith, nat_tests, f.0, g.0) in
    ap (λ l. is_from ((x - 47) * 11 ^ k + packed k p) (11 ^ l) ((y - 47) * 11 ^ k + packed k n)) left
    ∙ row-from (x - 47) (y - 47) (11 ^ k) (packed k p) (packed k n) (11 ^ (k - length p)) (span_ends k p g.1.1) (packed-below k n f.1.1)
    ∙ (λ i. digits i && begins-packed k n p f.1.1 g.1.1 i)

-- ---- what a key keeps

pub code_of-below : (number : List ℕ) → IsDigits number → code_of number < 11 ^ 15
unfolding code_of
code_of-below number h = packed-below 15 number (digits_fit number h)

pub past-below : (number : List ℕ) → IsDigits number → code_of number + span_of number ≤ 11 ^ 15
unfolding code_of
past-below number h = span_ends 15 number (digits_fit number h)

pub number_of-code_of : (number : List ℕ) → IsDigits number → number_of (code_of number) ≡ number
unfolding code_of number_of
number_of-code_of number h = unpacked-packed 15 number (digits_fit number h)

pub IsCode-code_of : (number : List ℕ) → IsDigits number → IsCode (code_of number)
IsCode-code_of number h =
    let same = number_of-code_of number h in
    record { digits = subst IsDigits (sym same) h; packed = ap code_of (sym same) }

module _ (a b : ℕ) (p q : Place) (f : IsCode a) (g : IsCode b) where
  key-cmp : ordering_then (nat_cmp a b) (kept_place_cmp p q) ≡ number_cmp (number_at (number_of a) p) (number_at (number_of b) q)
  unfolding code_of
  key-cmp =
      (λ i. ordering_then (nat_cmp (f.packed i) (g.packed i)) (place-order i p q))
      ∙ ap (λ r. ordering_then r (place_cmp p q)) (packed-cmp 15 (number_of a) (number_of b) (digits_fit (number_of a) f.digits) (digits_fit (number_of b) g.digits))

  pub tied-cmp : a ≡ b → kept_place_cmp p q ≡ number_cmp (number_at (number_of a) p) (number_at (number_of b) q)
  tied-cmp same = grind (arith, nat_tests, key-cmp, same)

  pub untied-cmp : (a ≡ b → ⊥) → nat_cmp a b ≡ number_cmp (number_at (number_of a) p) (number_at (number_of b) q)
  untied-cmp apart = grind (arith, nat_tests, key-cmp, apart)

pub code-begins : (first past code : ℕ) → IsCode first → IsCode code → past ≡ first + span_of (number_of first)
    → (nat_le first code && nat_lt code past) ≡ begins (number_of code) (number_of first)
unfolding code_of
code-begins first past code f g ends =
    ap (λ p. nat_le first code && nat_lt code p) ends
    ∙ (λ i. is_from (f.packed i) (span_of (number_of first)) (g.packed i))
    ∙ begins-packed 15 (number_of code) (number_of first) (digits_fit (number_of code) g.digits) (digits_fit (number_of first) f.digits)

-- ---- how a number is packed

-- the row of the digit that comes, and that of the next
pub next-row : (i span : ℕ) → i < 15 → span ≡ 11 ^ (15 - i) → span / 11 ≡ 11 ^ (15 - (i + 1))
next-row i span h e =
    let left : 15 - i ≡ suc (15 - (i + 1)) = omega arith in
    ap (λ s. s / 11) (e ∙ ap (λ l. 11 ^ l) left ∙ pow-suc 11 (15 - (i + 1))) ∙ mul-div_cancel (11 ^ (15 - (i + 1))) (omega arith)

module _ (octets : List ℕ) (code i : ℕ) (so_far : code + packed (15 - i) (drop i octets) ≡ code_of octets) where
  -- with the digit that comes
  pub packed-more : (digit row : ℕ) → length octets ≤ 15 → i < length octets → digit ≡ get_or octets i 0 - 47 → row ≡ 11 ^ (15 - (i + 1))
      → code + digit * row + packed (15 - (i + 1)) (drop (i + 1) octets) ≡ code_of octets
  unfolding packed
  packed-more digit row l h d r =
      let left : 15 - i ≡ suc (15 - (i + 1)) = omega arith in
      let turn = ap (λ k. packed k (drop i octets)) left ∙ ap (packed (suc (15 - (i + 1)))) (drop_more octets i 0 h) in
      let product : digit * row ≡ (get_or octets i 0 - 47) * 11 ^ (15 - (i + 1)) = (λ j. d j * r j) in
      omega (arith, turn, product, so_far)

  pub packed-all : length octets ≤ i → code ≡ code_of octets
  packed-all h = let none = ap (packed (15 - i)) (drop_all i octets h) ∙ packed-none (15 - i) in omega (arith, none, so_far)
