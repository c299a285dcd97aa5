-- The least of some numbers that passes a test.
use Rattle.std.proofs.Common.{◌≡◌, ℕ, zero, suc, ◌+◌, ◌<◌, ◌≤◌, Bool, true, false, cond, Option, Some, None, unwrap_or, refl, sym, ap, ◌∙◌, arith, ⊎_elim}
use Rattle.std.proofs.lemmas.Bool.{cases_eq, false≢true}
use Rattle.smq_window.specs.Homes.{least_from}

pub least-at : (n from q : ℕ) (test : ℕ → Bool) → from ≤ q → q < from + n → test q ≡ true
    → ((p : ℕ) → from ≤ p → p < q → test p ≡ false) → least_from n from test ≡ Some q
unfolding least_from
least-at zero from q test low high at none = absurd (omega arith)
least-at (suc n) from q test low high at none =
    ⊎_elim
    (λ (e : from ≡ q). ap (λ b. cond b (Some from) (least_from n (from + 1) test)) (ap test e ∙ at) ∙ ap Some e)
    (λ (apart : from ≡ q → ⊥).
    let below : from < q = omega arith in
    ap (λ b. cond b (Some from) (least_from n (from + 1) test)) (none from (omega arith) below)
    ∙ least-at n (from + 1) q test (omega arith) (omega arith) at (λ p l h. none p (omega arith) h))
    (cases_eq from q)

pub least-none : (n from : ℕ) (test : ℕ → Bool) → ((p : ℕ) → from ≤ p → p < from + n → test p ≡ false)
    → least_from n from test ≡ None
unfolding least_from
least-none zero from test none = refl
least-none (suc n) from test none =
    ap (λ b. cond b (Some from) (least_from n (from + 1) test)) (none from (omega arith) (omega arith))
    ∙ least-none n (from + 1) test (λ p l h. none p (omega arith) (omega arith))

abbrev Passes : (ℕ → Bool) → ℕ → ℕ → ℕ → Type 0
Passes test from found q = (test found ≡ true) × (from ≤ found) × (found ≤ q)

passes-step : (n from q d : ℕ) (test : ℕ → Bool) → from ≤ q → test q ≡ true
    → (from + 1 ≤ q → Passes test (from + 1) (unwrap_or (least_from n (from + 1) test) d) q)
    → (b : Bool) → test from ≡ b → Passes test from (unwrap_or (cond b (Some from) (least_from n (from + 1) test)) d) q
passes-step n from q d test low at later true e = (e, omega arith, low)
passes-step n from q d test low at later false e =
    let apart : from ≡ q → ⊥ = λ same. false≢true (sym e ∙ ap test same ∙ at) in
    let h = later (omega arith) in
    let more : from ≤ unwrap_or (least_from n (from + 1) test) d = omega (arith, h.1) in (h.0, more, h.2)

-- where one of the numbers passes, the least that does is found, whatever stands for none
pub least-passes : (n from q d : ℕ) (test : ℕ → Bool) → from ≤ q → q < from + n → test q ≡ true
    → (test (unwrap_or (least_from n from test) d) ≡ true) × (from ≤ unwrap_or (least_from n from test) d)
    × (unwrap_or (least_from n from test) d ≤ q)
unfolding least_from
least-passes zero from q d test low high at = absurd (omega arith)
least-passes (suc n) from q d test low high at =
    passes-step n from q d test low at (λ l. least-passes n (from + 1) q d test l (omega arith) at) (test from) refl

some-step : (n from x : ℕ) (test : ℕ → Bool)
    → (least_from n (from + 1) test ≡ Some x → (from + 1 ≤ x) × (x < from + 1 + n))
    → (b : Bool) → cond b (Some from) (least_from n (from + 1) test) ≡ Some x → (from ≤ x) × (x < from + suc n)
some-step n from x test later true e =
    let same : from ≡ x = cc in (omega (arith, same), omega (arith, same))
some-step n from x test later false e = let h = later e in (omega (arith, h.0), omega (arith, h.1))

-- what is found is among them
least-some : (n from x : ℕ) (test : ℕ → Bool) → least_from n from test ≡ Some x → (from ≤ x) × (x < from + n)
unfolding least_from
least-some zero from x test e = absurd cc
least-some (suc n) from x test e =
    some-step n from x test (λ f. least-some n (from + 1) x test f) (test from) e

-- so is what stands for none, where that is one of them
pub least-within : (n from d : ℕ) (test : ℕ → Bool) → from ≤ d → d < from + n
    → (from ≤ unwrap_or (least_from n from test) d) × (unwrap_or (least_from n from test) d < from + n)
least-within n from d test low high = at (least_from n from test) refl
  where
    at : (r : Option ℕ) → least_from n from test ≡ r → (from ≤ unwrap_or r d) × (unwrap_or r d < from + n)
    at None e = (low, high)
    at (Some x) e = least-some n from x test e
