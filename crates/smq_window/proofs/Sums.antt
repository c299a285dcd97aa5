-- What the periods of a connection have of an exchange.
use Rattle.std.proofs.Common.{◌≡◌, ℕ, ◌+◌, ◌<◌, ◌≤◌, ◌&&◌, ◌⊎◌, inl, inr, List, [], ◌∷◌, ◌++◌, length, get_or, set, None, sym, ap, ◌∙◌, arith, ⊎_elim, get_or-set_other, get_or-set_same}
use Rattle.std.proofs.lemmas.Bool.{cases_eq, cases_lt}
use Rattle.std.proofs.lemmas.List.{get_or_default, get_or-map, map-set, set-get_or}
use Rattle.std.proofs.lemmas.Bool.Decides.{nat_tests}
use Rattle.std.proofs.lemmas.List.Sums.{sum_by-le, sum_by-set, sum_by_push}
use Rattle.std.proofs.Math.ListN.{length-set}
use Rattle.std.specs.List.{All, AllPairs}
use Rattle.smq_kit.specs.declared.place.Dir.{Dir}
use Rattle.smq_window.specs.declared.balance.Balance.{Balance}
use Rattle.smq_window.specs.declared.exchange.Half.{Half}
use Rattle.smq_window.specs.declared.periods.Period.{Period}
use Rattle.smq_window.specs.within.Waiting.{number_of, waiting_of}
use Rattle.smq_window.specs.within.Kept.{numbers, share_of, waiting_at, waiting_in}

-- what a period adds where it has the number, and where not
share-same : (q : ℕ) (asker : Dir) (number : ℕ) (half : Half) (p : Period) → p.number ≡ q
    → share_of q asker number half p ≡ waiting_in p.balance asker number half
share-same q asker number half p e = grind (arith, nat_tests)

pub share-other : (q : ℕ) (asker : Dir) (number : ℕ) (half : Half) (p : Period) → (p.number ≡ q → ⊥)
    → share_of q asker number half p ≡ 0
share-other q asker number half p ne = grind (arith, nat_tests)

share-none : (q : ℕ) (asker : Dir) (number : ℕ) (half : Half) (p : Period)
    → (p.number ≡ q → waiting_in p.balance asker number half ≡ 0) → share_of q asker number half p ≤ 0
share-none q asker number half p zero =
    ⊎_elim
    (λ (e : p.number ≡ q). omega (arith, share-same q asker number half p e, zero e))
    (λ (ne : p.number ≡ q → ⊥). omega (arith, share-other q asker number half p ne))
    (cases_eq p.number q)

-- where no period of a number has any, none waits there
pub sum-none : (q : ℕ) (asker : Dir) (number : ℕ) (half : Half) (ps : List Period)
    → ((k : ℕ) (d : Period) → k < length ps → (get_or ps k d).number ≡ q → waiting_in (get_or ps k d).balance asker number half ≡ 0)
    → waiting_at ps q asker number half ≡ 0
sum-none q asker number half ps none =
    let each : All (λ p. share_of q asker number half p ≤ 0) ps =
    λ k d h. share-none q asker number half (get_or ps k d) (none k d h) in
    omega (arith, sum_by-le (share_of q asker number half) 0 ps each)

-- where each number is below those behind it, what waits in one period is what that one has
pub sum-one : (q : ℕ) (asker : Dir) (number : ℕ) (half : Half) (ps : List Period) (i : ℕ) (d : Period)
    → AllPairs (λ p r. p.number < r.number) ps → i < length ps → (get_or ps i d).number ≡ q
    → waiting_at ps q asker number half ≡ waiting_in (get_or ps i d).balance asker number half
sum-one q asker number half ps i d ascend low same =
    let other : Period = record (get_or ps i d) { number = q + 1 } in
    let zero : waiting_at (set ps i other) q asker number half ≡ 0 = sum-none q asker number half (set ps i other) (λ k e h is.
    absurd (apart k e h is (cases_eq k i))) in
    let sums = sum_by-set (share_of q asker number half) ps i other d low in
    omega (arith, sums, zero, share-same q asker number half (get_or ps i d) same, share-other q asker number half other (λ e. omega arith))
  where
    apart : (k : ℕ) (e : Period) → k < length (set ps i (record (get_or ps i d) { number = q + 1 }))
        → (get_or (set ps i (record (get_or ps i d) { number = q + 1 })) k e).number ≡ q → (k ≡ i) ⊎ (k ≡ i → ⊥) → ⊥
    apart k e h is (inl there) =
        let here : (get_or (set ps i (record (get_or ps i d) { number = q + 1 })) k e).number ≡ q + 1 =
        ap (λ (j : ℕ). (get_or (set ps i (record (get_or ps i d) { number = q + 1 })) j e).number) there
        ∙ ap (λ (p : Period). p.number) (get_or-set_same ps i (record (get_or ps i d) { number = q + 1 }) e low) in
        omega (arith, here, is)
    apart k e h is (inr elsewhere) =
        let within : k < length ps = omega (arith, length-set ps i (record (get_or ps i d) { number = q + 1 }), h) in
        let kept : (get_or ps k e).number ≡ q =
        sym (ap (λ (p : Period). p.number) (get_or-set_other ps i k (record (get_or ps i d) { number = q + 1 }) e elsewhere)) ∙ is in
        let mine : (get_or ps i e).number ≡ q = ap (λ (p : Period). p.number) (get_or_default ps i e d low) ∙ same in
        ⊎_elim
        (λ (below : k < i). omega (arith, ascend k i e below low, kept, mine))
        (λ (above : i ≤ k). omega (arith, ascend i k e (omega arith) within, kept, mine))
        (cases_lt k i)

-- the number of the period at an index
pub number-here : (ps : List Period) (i : ℕ) (p : Period) → i < length ps → p ≡ get_or ps i p → get_or (numbers ps) i 0 ≡ p.number
number-here ps i p low is = get_or-map (λ (x : Period). x.number) ps i p 0 low ∙ ap (λ (x : Period). x.number) (sym is)

-- the numbers stay where one balance changes
pub numbers-set : (ps : List Period) (i : ℕ) (balance : Balance) (p : Period) → i < length ps → p ≡ get_or ps i p
    → numbers (set ps i (record { number = p.number; balance = balance })) ≡ numbers ps
numbers-set ps i balance p low is =
    map-set (λ (x : Period). x.number) ps i (record { number = p.number; balance = balance })
    ∙ ap (λ (n : ℕ). set (numbers ps) i n) (sym (number-here ps i p low is))
    ∙ set-get_or (numbers ps) i 0

-- a new period has nothing that waits
pub new-waits : (ps : List Period) (p : Period) → ((asker : Dir) (number : ℕ) → waiting_of p.balance asker number ≡ None)
    → (q : ℕ) (asker : Dir) (number : ℕ) (half : Half) → waiting_at (ps ++ p ∷ []) q asker number half ≡ waiting_at ps q asker number half
new-waits ps p none q asker number half =
    let zero : share_of q asker number half p ≤ 0 = share-none q asker number half p (λ _. ap (number_of half) (none asker number)) in
    omega (arith, sum_by_push (share_of q asker number half) ps p, zero)
