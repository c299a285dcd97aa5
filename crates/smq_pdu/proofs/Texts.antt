-- A text up to the first zero octet, by the place of that octet.
use Rattle.std.proofs.Common.{◌≡◌, ℕ, suc, ◌+◌, ◌<◌, ◌≤◌, Bool, true, false, cond, List, [], ◌∷◌, length, take, drop, Option, Some, None, refl, ap, ◌∙◌, arith, ltb, add-one}
use Rattle.std.specs.Prelude.{position, option_map, not, ◌==◌}
use Rattle.std.specs.List.{position_or_len}
use Rattle.std.proofs.lemmas.Bool.{ltb-true, ltb-false}
use Rattle.std.proofs.lemmas.List.{take_all}
use Rattle.std.proofs.lemmas.Bool.Decides.{nat_tests}
use Rattle.smq_pdu.specs.Readers.{c_octet_at}
use Rattle.smq_pdu.specs.Pdu.{before_zero}

abbrev pub Found : Type 0
Found = Option (List ℕ × List ℕ)

abbrev pub chosen : Bool → List ℕ × List ℕ → Found
chosen true p = Some p
chosen false p = None

abbrev pub zero_at : List ℕ → ℕ
zero_at o = position_or_len (λ x. x == 0) o

abbrev put_front : ℕ → Found → Found
put_front x None = None
put_front x (Some p) = Some (x ∷ p.0, p.1)

put_front-is : (x : ℕ) (f : Found) → option_map (λ p. (x ∷ p.0, p.1)) f ≡ put_front x f
put_front-is x None = refl
put_front-is x (Some p) = refl

ltb-suc : (n m : ℕ) → ltb (suc n) (suc m) ≡ ltb n m
ltb-suc n m = grind (arith, nat_tests)

ltb-zero : (m : ℕ) → ltb 0 (suc m) ≡ true
ltb-zero m = grind (arith, nat_tests)

pushed : (x : ℕ) (o : List ℕ) (n : ℕ) (b : Bool) → put_front x (chosen b (take n o, drop (suc n) o)) ≡ chosen b (x ∷ take n o, drop (suc n) o)
pushed x o n true = refl
pushed x o n false = refl

abbrev place : Bool → List ℕ → ℕ
place b o = cond (not b) (1 + zero_at o) 0

abbrev first_or : Bool → ℕ → List ℕ → Found → Found
first_or true x o f = Some ([], o)
first_or false x o f = put_front x f

first_or-is : (b : Bool) (x : ℕ) (o : List ℕ) (f : Found) → cond b (Some ([], o)) (option_map (λ p. (x ∷ p.0, p.1)) f) ≡ first_or b x o f
first_or-is true x o f = refl
first_or-is false x o f = put_front-is x f

by_test : (b : Bool) (x : ℕ) (o : List ℕ)
    → first_or b x o (chosen (ltb (zero_at o) (length o)) (take (zero_at o) o, drop (suc (zero_at o)) o))
    ≡ chosen (ltb (place b o) (suc (length o))) (take (place b o) (x ∷ o), drop (suc (place b o)) (x ∷ o))
by_test true x o = rw (ltb-zero (length o)) refl
by_test false x o = let e : 1 + zero_at o ≡ suc (zero_at o) = omega arith in
    rw (e, ltb-suc (zero_at o) (length o)) (pushed x o (zero_at o) (ltb (zero_at o) (length o)))

pub c_octet_by : (o : List ℕ) → c_octet_at o ≡ chosen (ltb (zero_at o) (length o)) (take (zero_at o) o, drop (suc (zero_at o)) o)
unfolding c_octet_at
c_octet_by [] = refl
c_octet_by (x ∷ o) = first_or-is (x == 0) x o (c_octet_at o) ∙ ap (first_or (x == 0) x o) (c_octet_by o) ∙ by_test (x == 0) x o

some_from : (o : List ℕ) (n : ℕ) (b : Bool) → ltb (zero_at o) (length o) ≡ b → cond b (Some (zero_at o)) None ≡ Some n
    → (n < length o) × (chosen b (take (zero_at o) o, drop (suc (zero_at o)) o) ≡ Some (take n o, drop (n + 1) o))
some_from o n true t h = let is : zero_at o ≡ n = cc in (rw (← is) (ltb-true (zero_at o) (length o) t), rw (add-one, is) refl)
some_from o n false t h = absurd cc

none_from : (o : List ℕ) (p : List ℕ × List ℕ) (b : Bool) → cond b (Some (zero_at o)) None ≡ None → chosen b p ≡ None
none_from o p true h = absurd cc
none_from o p false h = refl

-- with a zero octet, and with none
pub c_octet-some : (o : List ℕ) (n : ℕ) → position (λ x. x == 0) o ≡ Some n → (n < length o) × (c_octet_at o ≡ Some (take n o, drop (n + 1) o))
c_octet-some o n e = let s = some_from o n (ltb (zero_at o) (length o)) refl e in (s.0, c_octet_by o ∙ s.1)

pub c_octet-none : (o : List ℕ) → position (λ x. x == 0) o ≡ None → c_octet_at o ≡ None
c_octet-none o e = c_octet_by o ∙ none_from o _ (ltb (zero_at o) (length o)) e

before_from : (o : List ℕ) (n : ℕ) (b : Bool) → ltb (zero_at o) (length o) ≡ b → cond b (Some (zero_at o)) None ≡ Some n
    → (n ≤ length o) × (before_zero o ≡ take n o)
before_from o n true t h = let is : zero_at o ≡ n = cc in (rw (← is) (omega (arith, ltb-true (zero_at o) (length o) t)), ap (λ (k : ℕ). take k o) is)
before_from o n false t h = absurd cc

before_none : (o : List ℕ) (b : Bool) → ltb (zero_at o) (length o) ≡ b → cond b (Some (zero_at o)) None ≡ None → before_zero o ≡ o
before_none o true t h = absurd cc
before_none o false t h = take_all (zero_at o) o (ltb-false (zero_at o) (length o) t)

pub before_zero-some : (o : List ℕ) (n : ℕ) → position (λ x. x == 0) o ≡ Some n → (n ≤ length o) × (before_zero o ≡ take n o)
before_zero-some o n e = before_from o n (ltb (zero_at o) (length o)) refl e

pub before_zero-at : (o : List ℕ) (n : ℕ) → position (λ x. x == 0) o ≡ Some n → before_zero o ≡ take n o
before_zero-at o n e = (before_zero-some o n e).1

pub zero-within : (o : List ℕ) (n : ℕ) → position (λ x. x == 0) o ≡ Some n → n ≤ length o
zero-within o n e = (before_zero-some o n e).0

pub before_zero-none : (o : List ℕ) → position (λ x. x == 0) o ≡ None → before_zero o ≡ o
before_zero-none o e = before_none o (ltb (zero_at o) (length o)) refl e

pub ruleset before_zero_facts = (before_zero-at, zero-within, before_zero-none)

pub ruleset c_octet_facts = (c_octet-none)
