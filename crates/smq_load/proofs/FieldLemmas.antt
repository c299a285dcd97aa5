-- Fields of digits.
use Rattle.std.proofs.Common.{◌≡◌, ◌≤◌, ◌↔◌, ℕ, List, length, Bool, true, false, cond, ◌&&◌, nat_le, Some, None, Result, Ok, Err, IsOk, IfOk, refl, sym, ap, ◌∙◌, arith}
use Rattle.std.proofs.lemmas.Bool.Decides.{nat_tests}
use Rattle.std.proofs.lemmas.List.Sums.{AllPass-from_list_all, list_all-from_AllPass}
use Rattle.std.specs.Char.{is_ascii_digit}
use Rattle.std.specs.List.{AllPass, list_all}
use Rattle.std.specs.Result.{result_ok}
use Rattle.smq_load.specs.Fields.{digits_of}

-- so few to so many digits, and nothing else
pub record HasDigits (least most : ℕ) (field : List ℕ) : Type 0 where
  pub low : least ≤ length field
  pub high : length field ≤ most
  pub digits : AllPass is_ascii_digit field

-- a field of so many digits is one
digits_of-is : (least most : ℕ) (field : List ℕ) → HasDigits least most field → digits_of least most field ≡ Some field
digits_of-is least most field h =
    let all : list_all is_ascii_digit field ≡ true = list_all-from_AllPass is_ascii_digit field h.digits in
    let low : nat_le least (length field) ≡ true = grind (arith, nat_tests, h.low) in
    let high : nat_le (length field) most ≡ true = grind (arith, nat_tests, h.high) in
    rw (low, high, all) refl

-- any other field is none
digits_of-none : (least most : ℕ) (field : List ℕ) → (HasDigits least most field → ⊥) → digits_of least most field ≡ None
digits_of-none least most field h = go (nat_le least (length field) && nat_le (length field) most && list_all is_ascii_digit field) refl
  where
    go : (b : Bool) → b ≡ (nat_le least (length field) && nat_le (length field) most && list_all is_ascii_digit field)
        → cond b (Some field) None ≡ None
    go true e =
        let low : least ≤ length field = grind (arith, nat_tests, e) in
        let high : length field ≤ most = grind (arith, nat_tests, e) in
        let all : list_all is_ascii_digit field ≡ true = grind (arith, nat_tests, e) in
        absurd (h (record { low = low; high = high; digits = AllPass-from_list_all is_ascii_digit field all }))
    go false e = refl

-- what a parser of digits takes
pub digits_of-parsed : {P E : Type 0} (least most : ℕ) (field : List ℕ) (r : Result (List ℕ) E) → (P → HasDigits least most field)
    → (HasDigits least most field → P)
    → (IsOk r ↔ P) → IfOk r (λ digits. digits ≡ field) → result_ok r ≡ digits_of least most field
digits_of-parsed least most field (Ok digits) to from h value = ap (λ (d : List ℕ). Some d) value
    ∙ sym (digits_of-is least most field (to (h.0 refl)))
digits_of-parsed least most field (Err e) to from h value =
    let none : HasDigits least most field → ⊥ = λ is. let ok = h.1 (from is) in cc in
    sym (digits_of-none least most field none)
