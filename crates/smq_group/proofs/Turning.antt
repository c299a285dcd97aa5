-- Standings by the outlook of their key, and which of them another outlook changes.
use Rattle.std.proofs.Common.{◌≡◌, ◌≢◌, ◌≤◌, ℕ, Bool, true, false, cond, Option, Some, None, refl, sym, ap, ◌∙◌, subst, arith}
use Rattle.std.specs.Prelude.{◌&&◌, ◌==◌, not, min, option_map}
use Rattle.std.specs.Ordering.{eq_by_cmp}
use Rattle.std.specs.Cmp.{both_ways}
use Rattle.std.specs.List.{reduce}
use Rattle.std.proofs.lemmas.Bool.{false≢true, false_from_ne_true, eqb-true, eqb-false, eq-eqb, not-true, not-false}
use Rattle.smq_kit.specs.declared.place.Place.{Place}
use Rattle.smq_kit.specs.declared.link_key.LinkKey.{LinkKey}
use Rattle.smq_kit.specs.Orders.{place_cmp}
use Rattle.smq_kit.specs.Maps.{same_option}
use Rattle.smq_shelf.proofs.Walks.{both}
use Rattle.smq_group.specs.declared.change.Standing.{Standing}
use Rattle.smq_group.specs.declared.change.Standing.TheVariants.{Single, Shared, Stray, Deciding, Extra, Noted}
use Rattle.smq_group.specs.declared.changes.Turn.{Turn}
use Rattle.smq_group.specs.declared.changes.Turn.TheVariants.{Each, Deciders, Newcomer}
use Rattle.smq_group.specs.declared.group_summary.GroupSummary.{GroupSummary}
use Rattle.smq_group.specs.Changes.{told_of_submit, told_of_receipt, same_standing}
use Rattle.smq_group.specs.Matching as m
use Rattle.smq_group.specs.Matching.{Grouping, GroupedReceipt, candidates, decider, earlier, is_decider, matches, submit_standing, receipt_standing}
use Rattle.smq_group.specs.within.Outlooks.{decider_of, submit_standing_of, receipt_standing_of}
use Rattle.smq_group.specs.within.Stored.{earliest_at, outlook_in}
use Rattle.smq_group.specs.within.Told.{same_decider, turn_between}
use Rattle.smq_group.proofs.Placing.{same_place, own_place}

-- ---- standings by outlooks

decider-same : (g : Grouping) (key : LinkKey) → decider g key ≡ decider_of (outlook_in g key)
decider-same g key = by (reduce earlier (candidates g key))
  where
    by : (o : Option m.Candidate) → option_map (λ c. c.1) o ≡ option_map (λ e. e.place) (option_map earliest_at o)
    by None = refl
    by (Some c) = refl

told_single : (b : Bool) (d : Option Place) → told_of_submit (cond b (m.Single d) m.Shared) ≡ cond b (Single d) Shared
told_single true d = refl
told_single false d = refl

pub told-submit : (g : Grouping) (key : LinkKey) → told_of_submit (submit_standing g key) ≡ submit_standing_of (outlook_in g key)
told-submit g key = told_single (matches g key == 1) (decider g key) ∙ ap (λ d. cond (matches g key == 1) (Single d) Shared) (decider-same g key)

-- the standing of a receipt by four tests: no submit, one submit, it decides, it can
abbrev pub by_tests : Bool → Bool → Bool → Bool → Standing
by_tests none one decides can = cond none Stray (cond (not one) Shared (cond decides Deciding (cond can Extra Noted)))

told_tests : (z u d c : Bool) → told_of_receipt (cond z m.Stray (cond (not u) m.KeyShared (cond d m.Deciding (cond c m.Extra m.Noted)))) ≡ by_tests z u d c
told_tests false true false true = refl
told_tests _ _ _ _ = refl

pub told-receipt : (g : Grouping) (place : Place) (r : GroupedReceipt) → told_of_receipt (receipt_standing g place r) ≡ receipt_standing_of (outlook_in g r.key) place r.decides
told-receipt g place r =
    told_tests (matches g r.key == 0) (matches g r.key == 1) (is_decider g place r.key) r.decides
    ∙ ap (λ o. by_tests (matches g r.key == 0) (matches g r.key == 1) (same_option (eq_by_cmp place_cmp) o (Some place)) r.decides) (decider-same g r.key)

-- ---- standings that are one

pub same_self : (o : Option Place) → same_option (eq_by_cmp place_cmp) o o ≡ true
same_self None = refl
same_self (Some p) = own_place p p refl

pub standing-itself : (s : Standing) → same_standing s s ≡ true
standing-itself (Single p) = same_self p
standing-itself _ = refl

-- the place that an option has
abbrev pub is_at_place : Option Place → Place → Bool
is_at_place o q = same_option (eq_by_cmp place_cmp) o (Some q)

pub same_at : (a b : Option Place) → same_option (eq_by_cmp place_cmp) a b ≡ true → a ≡ b
same_at None None h = refl
same_at (Some p) (Some q) h = ap Some (same_place p q h)
same_at _ _ h = absurd (false≢true h)

-- standings that are called the same are one
pub same-standing-is : (s t : Standing) → same_standing s t ≡ true → s ≡ t
same-standing-is (Single a) (Single b) h = ap Single (same_at a b h)
same-standing-is Shared Shared h = refl
same-standing-is Stray Stray h = refl
same-standing-is Deciding Deciding h = refl
same-standing-is Extra Extra h = refl
same-standing-is Noted Noted h = refl
same-standing-is _ _ h = absurd (false≢true h)

-- where the numbers of submits are alike up to two, the tests for none and for one are
alike : (n m : ℕ) → (min n 2 == min m 2) ≡ true → ((n == 0) ≡ (m == 0)) × ((n == 1) ≡ (m == 1))
alike n m e = let s = eqb-true (min n 2) (min m 2) e in (
  both_ways (n == 0) (m == 0) (λ h. let k = eqb-true n 0 h in eq-eqb m 0 (omega (arith, s, k))) (λ h. let k = eqb-true m 0 h in eq-eqb n 0 (omega (arith, s, k))),
  both_ways (n == 1) (m == 1) (λ h. let k = eqb-true n 1 h in eq-eqb m 1 (omega (arith, s, k))) (λ h. let k = eqb-true m 1 h in eq-eqb n 1 (omega (arith, s, k))),
)

-- how many submits a standing tells of: none, one or more
abbrev rank : Standing → ℕ
rank Stray = 0
rank Shared = 2
rank _ = 1

unlike : (s t : Standing) → (rank s == rank t) ≡ false → same_standing s t ≡ false
unlike s t n = false_from_ne_true (same_standing s t) (λ h. false≢true (sym n ∙ eq-eqb (rank s) (rank t) (ap rank (same-standing-is s t h))))

rank-submit : (o : GroupSummary) → 1 ≤ o.matches → rank (submit_standing_of o) ≡ min o.matches 2
rank-submit o h = by (o.matches == 1) refl
  where
    by : (u : Bool) → (o.matches == 1) ≡ u → rank (cond u (Single (decider_of o)) Shared) ≡ min o.matches 2
    by true e = let n = eqb-true o.matches 1 e in omega (arith, n)
    by false e = let n : o.matches ≢ 1 = eqb-false o.matches 1 e in omega (arith, n, h)

rank-receipt : (o : GroupSummary) (q : Place) (can : Bool) → rank (receipt_standing_of o q can) ≡ min o.matches 2
rank-receipt o q can = by (o.matches == 0) (o.matches == 1) (is_at_place (decider_of o) q) can refl refl
  where
    by : (z u d c : Bool) → (o.matches == 0) ≡ z → (o.matches == 1) ≡ u → rank (by_tests z u d c) ≡ min o.matches 2
    by true u d c e f = let n = eqb-true o.matches 0 e in omega (arith, n)
    by false false d c e f = let n : o.matches ≢ 0 = eqb-false o.matches 0 e in let m : o.matches ≢ 1 = eqb-false o.matches 1 f in omega (arith, n, m)
    by false true false true e f = let n = eqb-true o.matches 1 f in omega (arith, n)
    by false true _ _ e f = let n = eqb-true o.matches 1 f in omega (arith, n)

-- ---- which turn it is

abbrev Tells : Turn → Bool → Bool → Type 0
Tells Each e w = e ≡ false
Tells Deciders e w = (e ≡ true) × (w ≡ true)
Tells Newcomer e w = (e ≡ true) × (w ≡ false)

turn-tells : (e w : Bool) → Tells (cond (not e) Each (cond w Deciders Newcomer)) e w
turn-tells true true = (refl, refl)
turn-tells true false = (refl, refl)
turn-tells false w = refl

module _ (b a : GroupSummary) where
  abbrev sizes : Bool
  sizes = min b.matches 2 == min a.matches 2

  abbrev anew : Bool
  anew = (a.matches == 1) && not (same_decider b a)

  tests : (t : Turn) → turn_between b a ≡ t → Tells t sizes anew
  tests t e = subst (λ (x : Turn). Tells x sizes anew) e (turn-tells sizes anew)

  -- where all are told, the submits' standing is another
  pub each-submit : 1 ≤ b.matches → 1 ≤ a.matches → turn_between b a ≡ Each → same_standing (submit_standing_of b) (submit_standing_of a) ≡ false
  each-submit nb na t = unlike (submit_standing_of b) (submit_standing_of a) ((λ i. rank-submit b nb i == rank-submit a na i) ∙ tests Each t)

  -- where another receipt decides, there is one submit before and after
  pub record IsAnew : Type 0 where
    pub one_before : (b.matches == 1) ≡ true
    pub one_after : (a.matches == 1) ≡ true
    pub none_before : (b.matches == 0) ≡ false
    pub none_after : (a.matches == 0) ≡ false
    pub other : same_decider b a ≡ false

  pub anew-is : turn_between b a ≡ Deciders → IsAnew
  anew-is t =
      let parts = tests Deciders t in
      let two = both (a.matches == 1) (not (same_decider b a)) parts.1 in
      let same = alike b.matches a.matches parts.0 in
      let none : (a.matches == 0) ≡ false = ap (λ n. n == 0) (eqb-true a.matches 1 two.0) in
      record { one_before = same.1 ∙ two.0; one_after = two.0; none_before = same.0 ∙ none; none_after = none; other = not-true (same_decider b a) two.1 }

  pub deciders-submit : turn_between b a ≡ Deciders → same_standing (submit_standing_of b) (submit_standing_of a) ≡ false
  deciders-submit t =
      let n = anew-is t in
      (λ i. same_standing (cond (n.one_before i) (Single (decider_of b)) Shared) (cond (n.one_after i) (Single (decider_of a)) Shared)) ∙ n.other

  -- where the newcomer alone is told, the others' standings stay
  pub newcomer-submit : turn_between b a ≡ Newcomer → same_standing (submit_standing_of b) (submit_standing_of a) ≡ true
  newcomer-submit t =
      let parts = tests Newcomer t in
      ap (λ u. same_standing (cond u (Single (decider_of b)) Shared) (submit_standing_of a)) (alike b.matches a.matches parts.0).1 ∙ stays (a.matches == 1) parts.1
    where
      stays : (u : Bool) → (u && not (same_decider b a)) ≡ false → same_standing (cond u (Single (decider_of b)) Shared) (cond u (Single (decider_of a)) Shared) ≡ true
      stays true h = not-false (same_decider b a) h
      stays false h = refl

  -- ---- receipts

  module _ (q : Place) (can : Bool) where
    abbrev at_before : Bool
    at_before = is_at_place (decider_of b) q

    abbrev at_after : Bool
    at_after = is_at_place (decider_of a) q

    -- where all are told, a receipt's standing is another
    pub each-receipt : turn_between b a ≡ Each → same_standing (receipt_standing_of b q can) (receipt_standing_of a q can) ≡ false
    each-receipt t = unlike (receipt_standing_of b q can) (receipt_standing_of a q can) ((λ i. rank-receipt b q can i == rank-receipt a q can i) ∙ tests Each t)

    pub newcomer-receipt : turn_between b a ≡ Newcomer → same_standing (receipt_standing_of b q can) (receipt_standing_of a q can) ≡ true
    newcomer-receipt t =
        let parts = tests Newcomer t in
        let same = alike b.matches a.matches parts.0 in
        (λ i. same_standing (by_tests (same.0 i) (same.1 i) at_before can) (receipt_standing_of a q can)) ∙ stays (a.matches == 0) (a.matches == 1) parts.1
      where
        stays : (z u : Bool) → (u && not (same_decider b a)) ≡ false → same_standing (by_tests z u at_before can) (by_tests z u at_after can) ≡ true
        stays true u h = refl
        stays false false h = refl
        stays false true h =
            ap (λ o. same_standing (by_tests false true (is_at_place o q) can) (by_tests false true at_after can)) (same_at (decider_of b) (decider_of a) (not-false (same_decider b a) h))
            ∙ standing-itself (by_tests false true at_after can)

    -- where another receipt decides, what stands at a place is told by the deciding receipts before and after
    pub deciders-before : turn_between b a ≡ Deciders → receipt_standing_of b q can ≡ cond at_before Deciding (cond can Extra Noted)
    deciders-before t = let n = anew-is t in λ i. by_tests (n.none_before i) (n.one_before i) at_before can

    pub deciders-after : turn_between b a ≡ Deciders → receipt_standing_of a q can ≡ cond at_after Deciding (cond can Extra Noted)
    deciders-after t = let n = anew-is t in λ i. by_tests (n.none_after i) (n.one_after i) at_after can
