-- A single key is accepted at one place alone, and the receipt that decides is the earliest that can.
use Rattle.std.proofs.Common.{◌≡◌, ◌≢◌, ℕ, ◌+◌, Bool, true, false, cond, List, [], ◌∷◌, Option, Some, None, refl, sym, ap, ◌∙◌, subst, arith}
use Rattle.std.specs.Prelude.{◌==◌, ◌↔◌, IsTrue, map, count_by, option_map}
use Rattle.std.specs.List.{AllByRecursion, reduce}
use Rattle.std.specs.Ordering.{eq_by_cmp}
use Rattle.std.specs.FinMap.{FinMap, entries, get, remove, get-remove}
use Rattle.std.proofs.lemmas.Bool.{false≢true, false_from_ne_true, eq-eqb, eqb-true}
use Rattle.std.proofs.lemmas.List.Sums.{sum_by-cons}
use Rattle.smq_kit.specs.declared.place.Place.{Place}
use Rattle.smq_kit.specs.declared.link_key.LinkKey.{LinkKey}
use Rattle.smq_kit.specs.LinkKeys.{same_key}
use Rattle.smq_kit.specs.Maps.{number_of}
use Rattle.smq_kit.specs.Orders.{place_cmp}
use Rattle.smq_kit.proofs.MapLemmas as maps
use Rattle.smq_kit.proofs.PlaceOrders.{places_total, places_exact}
use Rattle.smq_group.specs.Matching.{Grouping, Candidate, CanDecide, IsSingle, IsEarliest, candidates, decider, earlier, matches}
use Rattle.smq_group.proofs.Earliest.{IsFirst, first-is, one_key, own_key}
use Rattle.smq_group.proofs.Placing.{not_none, own_place, same_place}
use Rattle.smq_group.proofs.Storing.{number-less}

-- ---- numbers of a map by place

module _ {X : Type 0} (test : X → Bool) where
  -- where none passes, the number is 0
  none-passes : (es : List (Place × X)) → AllByRecursion (λ e. test e.1 ≡ false) es → count_by test (map (λ e. e.1) es) ≡ 0
  none-passes [] h = refl
  none-passes (e ∷ es) h =
      sum_by-cons (λ x. cond (test x) 1 0) e.1 (map (λ e. e.1) es) ∙ (λ i. cond (h.0 i) 1 0 + none-passes es h.1 i)

  all-fail : (m : FinMap place_cmp X) (es : List (Place × X)) → AllByRecursion (λ e. get m e.0 ≡ Some e.1) es
      → ((q : Place) (v : X) → get m q ≡ Some v → test v ≡ false) → AllByRecursion (λ e. test e.1 ≡ false) es
  all-fail m [] a h = tt
  all-fail m (e ∷ es) a h = (h e.0 e.1 a.0, all-fail m es a.1 h)

  pub number-none : (m : FinMap place_cmp X) → ((q : Place) (v : X) → get m q ≡ Some v → test v ≡ false) → number_of test m ≡ 0
  number-none m h = none-passes (entries m) (all-fail m (entries m) (maps.get-entry places_total places_exact m) h)

  -- what passes counts
  pub number-some : (m : FinMap place_cmp X) (q : Place) (v : X) → get m q ≡ Some v → test v ≡ true
      → number_of test m ≡ number_of test (remove m q) + 1
  number-some m q v e h = sym (number-less test m v q true e h)

-- ---- places

pub still-there : {X : Type 0} (m : FinMap place_cmp X) (p q : Place) → p ≢ q → get (remove m q) p ≡ get m p
still-there m p q ne = get-remove places_total m q p ∙ ap (λ b. cond b None (get m p)) (false_from_ne_true (eq_by_cmp place_cmp p q) (λ e. ne (same_place p q e)))

pub gone : {X : Type 0} (m : FinMap place_cmp X) (p q : Place) (v : X) → get (remove m q) p ≡ Some v → (p ≢ q) × (get m p ≡ Some v)
gone {X} m p q v e = by_test (eq_by_cmp place_cmp p q) refl
  where
    by_test : (b : Bool) → eq_by_cmp place_cmp p q ≡ b → (p ≢ q) × (get m p ≡ Some v)
    by_test true t = absurd (not_none v (get (remove m q) p) (get-remove places_total m q p ∙ ap (λ b. cond b None (get m p)) t) e)
    by_test false t =
        let ne : p ≢ q = λ same. false≢true (sym t ∙ own_place p q same) in
        (ne, sym (still-there m p q ne) ∙ e)

-- ---- single keys

pub only-one : (g : Grouping) (key : LinkKey) (place : Place) → get g.submits place ≡ Some key → matches g key ≡ 1 → IsSingle g key place
only-one g key place here one = record {
  here = here;
  elsewhere = λ other ne there.
      let some = number-some (same_key key) g.submits place key here (own_key key) in
      let more = number-some (same_key key) (remove g.submits place) other key (still-there g.submits other place ne ∙ there) (own_key key) in
      absurd (omega (arith, some, more, one));
}

pub failing : (key k : LinkKey) (b : Bool) → same_key key k ≡ b → (key ≡ k → ⊥) → b ≡ false
failing key k true e ne = absurd (ne (one_key key k e))
failing key k false e ne = refl

pub alone-one : (g : Grouping) (key : LinkKey) (place : Place) → IsSingle g key place → matches g key ≡ 1
alone-one g key place h =
    let some = number-some (same_key key) g.submits place key h.here (own_key key) in
    let none : number_of (same_key key) (remove g.submits place) ≡ 0 = number-none (same_key key) (remove g.submits place) (λ q k e.
    let there = gone g.submits q place k e in
    failing key k (same_key key k) refl (λ same. h.elsewhere q there.0 (there.1 ∙ ap Some (sym same)))) in
    omega (arith, some, none)

-- a key is single where one message alone is accepted with it
pub alone : (g : Grouping) (key : LinkKey) (place : Place) → get g.submits place ≡ Some key → IsTrue (matches g key == 1) ↔ IsSingle g key place
alone g key place here = (λ e. only-one g key place here (eqb-true (matches g key) 1 e), λ h. eq-eqb (matches g key) 1 (alone-one g key place h))

-- ---- the earliest receipt that can decide

decided_at : (c : Option Candidate) (place : Place) → option_map (λ c. c.1) c ≡ Some place → (e : Candidate) × ((c ≡ Some e) × (e.1 ≡ place))
decided_at None place e = absurd cc
decided_at (Some c) place e = (c, (refl, cc))

undecided : (c : Option Candidate) → option_map (λ c. c.1) c ≡ None → c ≡ None
undecided None e = refl
undecided (Some c) e = absurd cc

-- the receipt that decides comes after none that can
pub earliest : (g : Grouping) (key : LinkKey) (place : Place) → decider g key ≡ Some place → IsEarliest g key place
earliest g key place e =
    let c = decided_at (reduce earlier (candidates g key)) place e in
    let first : IsFirst g key (Some c.0) = first-is g key (Some c.0) c.1.0 in
    subst (λ (p : Place). IsEarliest g key p) c.1.1 (record { moment = c.0.0; can = first.0; after_none = first.1 })

-- where none decides, none can
pub none-can : (g : Grouping) (key : LinkKey) → decider g key ≡ None → (moment : ℕ) (place : Place) → CanDecide g key moment place → ⊥
none-can g key e = first-is g key None (undecided (reduce earlier (candidates g key)) e)
