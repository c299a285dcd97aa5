-- The computed least number is the least that passes.
use Rattle.std.proofs.Common.{◌≡◌, ℕ, zero, suc, ◌+◌, ◌<◌, Bool, true, false, cond, Option, Some, None, refl, sym, ap, ◌∙◌, arith, inl, inr, subst}
use Rattle.std.specs.Option.{option_or, MatchOption}
use Rattle.std.proofs.lemmas.Bool.{false≢true, cases_lt}
use Rattle.smq_receipt.specs.Places.{least_below, IsLeast, FindsTheLeast}

abbrev AllFail : (ℕ → Bool) → ℕ → Type 0
AllFail test bound = (k : ℕ) → k < bound → test k ≡ false

-- what an answer says
abbrev Tells : (ℕ → Bool) → ℕ → Option ℕ → Type 0
Tells test bound r = MatchOption r (AllFail test bound) (λ p. IsLeast test bound p)

pub all_fail_more : (test : ℕ → Bool) (n : ℕ) → ((k : ℕ) → k < n → test k ≡ false) → test n ≡ false → (k : ℕ) → k < n + 1 → test k ≡ false
all_fail_more test n h here k l = elim (cases_lt k n) [
  | inl low ↦ h k low
  | inr high ↦ let e : n ≡ k = omega arith in let P : ℕ
      → Type 0 = λ i. test i
      ≡ false in subst P e here
]

step : (test : ℕ → Bool) (n : ℕ) (r : Option ℕ) (b : Bool) → test n ≡ b → Tells test n r → Tells test (suc n) (option_or r (cond b (Some n) None))
step test n (Some p) b e h = record { within = omega (arith, h.within); passes = h.passes; least = h.least }
step test n None true e h = record { within = omega arith; passes = e; least = h }
step test n None false e h = λ k l. all_fail_more test n h e k (omega arith)

pub least_tells : (test : ℕ → Bool) (bound : ℕ) → Tells test bound (least_below test bound)
unfolding least_below
least_tells test zero = λ k l. absurd (omega arith)
least_tells test (suc n) = step test n (least_below test n) (test n) refl (least_tells test n)

only_by : (test : ℕ → Bool) (bound place : ℕ) (r : Option ℕ) → Tells test bound r → IsLeast test bound place → r ≡ Some place
only_by test bound place None h is = absurd (false≢true (sym (h place is.within) ∙ is.passes))
only_by test bound place (Some p) h is =
    elim (cases_lt p place) [
      | inl low ↦ absurd (false≢true (sym (is.least p low) ∙ h.passes))
      | inr high ↦ elim (cases_lt place p) [
        | inl low ↦ absurd (false≢true (sym (h.least place low) ∙ is.passes))
        | inr same ↦ let e : p ≡ place = omega arith in ap (λ (i : ℕ). Some i) e
      ]
    ]

none_by : (test : ℕ → Bool) (bound : ℕ) (r : Option ℕ) → Tells test bound r → AllFail test bound → r ≡ None
none_by test bound None h fails = refl
none_by test bound (Some p) h fails = absurd (false≢true (sym (fails p h.within) ∙ h.passes))

pub found : (test : ℕ → Bool) (bound place : ℕ) → least_below test bound ≡ Some place → IsLeast test bound place
found test bound place e = let P : Option ℕ → Type 0 = λ r. Tells test bound r in subst P e (least_tells test bound)

pub only : (test : ℕ → Bool) (bound place : ℕ) → IsLeast test bound place → least_below test bound ≡ Some place
only test bound place is = only_by test bound place (least_below test bound) (least_tells test bound) is

pub none : (test : ℕ → Bool) (bound place : ℕ) → least_below test bound ≡ None → place < bound → test place ≡ false
none test bound place e l = let P : Option ℕ → Type 0 = λ r. Tells test bound r in subst P e (least_tells test bound) place l

-- where no number passes
pub no_place : (test : ℕ → Bool) (bound : ℕ) → ((k : ℕ) → k < bound → test k ≡ false) → least_below test bound ≡ None
no_place test bound fails = none_by test bound (least_below test bound) (least_tells test bound) fails

-- where one passes after those that fail
pub first_place : (test : ℕ → Bool) (bound place : ℕ) → place < bound → test place ≡ true → ((k : ℕ) → k < place → test k ≡ false)
    → least_below test bound ≡ Some place
first_place test bound place l p fails = only test bound place (record { within = l; passes = p; least = fails })

pub finds_the_least : FindsTheLeast
finds_the_least = record { found = found; only = only; none = none }
