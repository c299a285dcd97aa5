-- What decimal digits say, one digit at a time.
use Rattle.std.proofs.Common.{◌≡◌, ℕ, zero, suc, ◌+◌, ◌-◌, ◌*◌, ◌^◌, ◌<◌, ◌≤◌, Bool, true, false, cond, List, ◌∷◌, length, drop, Option, Some, None, refl, sym, ap, ◌∙◌, arith}
use Rattle.std.specs.Prelude.{nat_le, nat_lt, slice_index}
use Rattle.std.specs.Char.{is_ascii_digit}
use Rattle.std.specs.List.{list_all}
use Rattle.std.proofs.Math.Nat.{pow-zero, pow-succ', mul_assoc, add-mul, le-mul_of_pos_right, pow-suc}
use Rattle.std.proofs.lemmas.Bool.{le-ltb, lt-ltb, ltb-false, ltb-true}
use Rattle.std.proofs.lemmas.Bool.Decides.{nat_tests}
use Rattle.std.proofs.lemmas.List.{drop_more, drop_all}
use Rattle.std.proofs.lemmas.List.Folds.{list_all_at}
use Rattle.smq_kit.specs.Keys.{number_below}
use Rattle.smq_load.specs.Decimal.{decimal_to, is_decimal, sum_of, up_to}

-- the number of the digits so far and of those that are left
abbrev pub number_with : ℕ → List ℕ → Option ℕ
number_with so_far left = number_below (2 ^ 64) (so_far * 10 ^ length left + sum_of left)

some_power : (n : ℕ) → 1 ≤ 10 ^ n
some_power zero = omega (arith, pow-zero 10)
some_power (suc n) =
    let e : 10 ^ suc n ≡ 10 ^ n * 10 = pow-suc 10 n in
    let ih = some_power n in
    omega (arith, e, ih)

-- one more digit counts in what is left as it does in the number so far
weighed : (so_far v n s : ℕ) → so_far * 10 ^ suc n + (v * 10 ^ n + s) ≡ (so_far * 10 + v) * 10 ^ n + s
weighed so_far v n s =
    let power : so_far * 10 ^ suc n ≡ (so_far * 10) * 10 ^ n = ap (λ (p : ℕ). so_far * p) (pow-succ' 10 n) ∙ sym (mul_assoc so_far 10 (10 ^ n)) in
    let spread : (so_far * 10 + v) * 10 ^ n ≡ (so_far * 10) * 10 ^ n + v * 10 ^ n = add-mul (so_far * 10) v (10 ^ n) in
    omega (arith, power, spread)

with-digit : (so_far digit : ℕ) (left : List ℕ) → number_with so_far (digit ∷ left) ≡ number_with (so_far * 10 + (digit - 48)) left
with-digit so_far digit left = rw (weighed so_far (digit - 48) (length left) (sum_of left)) refl

-- past the limit no digits make a number
with-above : (so_far : ℕ) (left : List ℕ) → 2 ^ 64 ≤ so_far → number_with so_far left ≡ None
with-above so_far left above =
    let power : 0 < 10 ^ length left = omega (arith, some_power (length left)) in
    let more : so_far ≤ so_far * 10 ^ length left = le-mul_of_pos_right so_far power in
    rw (le-ltb (so_far * 10 ^ length left + sum_of left) (2 ^ 64) (omega (arith, more, above))) refl

-- ---- what is below 2^64

is_by : (n next : ℕ) (b : Bool) → cond b (Some n) None ≡ Some next → n ≡ next
is_by n next true h = cc
is_by n next false h = absurd cc

is_number : (n next : ℕ) → Some next ≡ number_below (2 ^ 64) n → n ≡ next
is_number n next h = is_by n next (nat_lt n (2 ^ 64)) (sym h)

above_by : (n : ℕ) (b : Bool) → nat_lt n (2 ^ 64) ≡ b → cond b (Some n) None ≡ None → 2 ^ 64 ≤ n
above_by n true t h = absurd cc
above_by n false t h = ltb-false n (2 ^ 64) t

is_above : (n : ℕ) → None ≡ number_below (2 ^ 64) n → 2 ^ 64 ≤ n
is_above n h = above_by n (nat_lt n (2 ^ 64)) refl (sym h)

below_by : (n next : ℕ) (b : Bool) → nat_lt n (2 ^ 64) ≡ b → cond b (Some n) None ≡ Some next → next < 2 ^ 64
below_by n next true t h = let same : n ≡ next = cc in rw (← same) (ltb-true n (2 ^ 64) t)
below_by n next false t h = absurd cc

pub is_below : (n next : ℕ) → Some next ≡ number_below (2 ^ 64) n → next < 2 ^ 64
is_below n next h = below_by n next (nat_lt n (2 ^ 64)) refl (sym h)

-- ---- the loop's steps

pub digit-step : (so_far : ℕ) (digits : List ℕ) (i next : ℕ) → i < length digits
    → Some next ≡ number_below (2 ^ 64) (so_far * 10 + (slice_index digits i - 48)) → number_with so_far (drop i digits) ≡ number_with next (drop (i + 1) digits)
digit-step so_far digits i next h fits =
    rw (drop_more digits i 0 h) (with-digit so_far (slice_index digits i) (drop (i + 1) digits)
    ∙ ap (λ (n : ℕ). number_with n (drop (i + 1) digits)) (is_number (so_far * 10 + (slice_index digits i - 48)) next fits))

pub digit-above : (so_far : ℕ) (digits : List ℕ) (i : ℕ) → i < length digits
    → None ≡ number_below (2 ^ 64) (so_far * 10 + (slice_index digits i - 48)) → number_with so_far (drop i digits) ≡ None
digit-above so_far digits i h fits =
    rw (drop_more digits i 0 h) (with-digit so_far (slice_index digits i) (drop (i + 1) digits)
    ∙ with-above (so_far * 10 + (slice_index digits i - 48)) (drop (i + 1) digits) (is_above (so_far * 10 + (slice_index digits i - 48)) fits))

pub digits-end : (so_far i : ℕ) (digits : List ℕ) → length digits ≤ i → so_far < 2 ^ 64 → number_with so_far (drop i digits) ≡ Some so_far
digits-end so_far i digits h fits =
    let e : so_far * 10 ^ 0 + 0 ≡ so_far = rw (pow-zero 10) (omega arith) in
    rw (drop_all i digits h, e, lt-ltb so_far (2 ^ 64) fits) refl

-- a digit is one where all are
digit_by : (digits : List ℕ) (i : ℕ) (b : Bool) → is_ascii_digit (slice_index digits i) ≡ b → list_all is_ascii_digit digits ≡ true
    → i < length digits → is_ascii_digit (slice_index digits i) ≡ true
digit_by digits i true e all h = e
digit_by digits i false e all h = absurd (let none = list_all_at is_ascii_digit digits i 0 h e in cc)

pub digit-at : (digits : List ℕ) (i : ℕ) → list_all is_ascii_digit digits ≡ true → i < length digits → is_ascii_digit (slice_index digits i) ≡ true
digit-at digits i all h = digit_by digits i (is_ascii_digit (slice_index digits i)) refl all h

-- ---- a number and the greatest that is taken

pub is_decimal-digits : (text : List ℕ) → is_decimal text ≡ true → list_all is_ascii_digit text ≡ true
is_decimal-digits text h = grind (arith, nat_tests, h)

pub up_to-below : (text : List ℕ) (greatest number : ℕ) → is_decimal text ≡ true → Some number ≡ number_below (2 ^ 64) (sum_of text)
    → up_to greatest (Some number) ≡ decimal_to greatest text
up_to-below text greatest number decimal h = rw (decimal, is_number (sum_of text) number h) refl

pub up_to-above : (text : List ℕ) (greatest : ℕ) → greatest < 2 ^ 64 → is_decimal text ≡ true → None ≡ number_below (2 ^ 64) (sum_of text)
    → decimal_to greatest text ≡ None
up_to-above text greatest fits decimal h =
    let over : 2 ^ 64 ≤ sum_of text = is_above (sum_of text) h in
    let above : nat_le (sum_of text) greatest ≡ false = grind (arith, nat_tests, over, fits) in
    rw (decimal, above) refl
