-- A receipt is listed exactly where its matches say so.
use Rattle.std.proofs.Common.{◌≡◌, inl, inr, ℕ, zero, suc, ◌<◌, Bool, true, false, cond, List, [], ◌∷◌, ◌++◌, Option, Some, None, refl, sym, ap, ◌∙◌, subst, arith}
use Rattle.std.specs.Prelude.{◌&&◌, ◌↔◌, not, Contains, map, count_by, option_map, option_to_list}
use Rattle.std.specs.List.{AllByRecursion, flat_map}
use Rattle.std.specs.Cmp.{tied_itself}
use Rattle.std.specs.Ordering.{eq_by_cmp, is_eq}
use Rattle.std.specs.FinMap.{FinMap, entries, find, get, remove, get-entries}
use Rattle.std.proofs.lemmas.Bool.{false≢true}
use Rattle.std.proofs.lemmas.List.Elements.{Contains-append_left, Contains-append_right, Contains-append_cases}
use Rattle.std.proofs.lemmas.List.Sums.{sum_by-cons}
use Rattle.smq_kit.specs.Maps.{number_of, same_option}
use Rattle.smq_kit.specs.Orders.{place_cmp}
use Rattle.smq_kit.specs.declared.link_key.LinkKey.{LinkKey}
use Rattle.smq_kit.specs.LinkKeys.{same_key}
use Rattle.smq_kit.specs.declared.place.Place.{Place}
use Rattle.smq_kit.proofs.MapLemmas as maps
use Rattle.smq_kit.proofs.PlaceOrders.{places_total, places_exact}
use Rattle.smq_tally.specs.declared.list.List as l
use Rattle.smq_tally.specs.declared.list.List.TheVariants.{StrayReceipts, AmbiguousReceipts, ExtraReceipts}
use Rattle.smq_tally.specs.declared.list.Listed.{Listed}
use Rattle.smq_tally.specs.Lists.{listed}
use Rattle.smq_present.specs.join.Listings.{list_of_standing, receipt_listing, receipt_notes}
use Rattle.smq_group.specs.Matching.{Grouping, GroupedReceipt, IsStray, HasSharedKey, IsExtra, decider, is_decider, matches, receipt_standing}
use Rattle.smq_present.specs.within.Listings.{list_by}
use Rattle.smq_present.proofs.lemmas.join.AgreeListings.{lists-alike}
use Rattle.smq_group.proofs.Earliest.{one_key, own_key}
use Rattle.smq_group.proofs.MatchingLemmas.{number-none, number-some, failing, only-one, alone-one, still-there, gone}

-- ---- a listed receipt is there, and its standing has the list

module _ (g : Grouping) where
  -- a receipt at a place whose standing has this list
  abbrev Shown : l.List → Place → Type 0
  Shown list place = (r : GroupedReceipt) × (get g.receipts place ≡ Some r) × (list_of_standing (receipt_standing g place r) ≡ Some list)

  none_in : (x : Listed) → Contains [] x → ⊥
  none_in x h = absurd (omega (arith, h.1))

  one_in : (y x : Listed) → Contains (y ∷ []) x → y ≡ x
  one_in y x (zero, h, e) = e
  one_in y x (suc k, h, e) = absurd (omega (arith, h))

  listed_as : (e : Place × GroupedReceipt) (o : Option l.List) (list : l.List) (place : Place)
      → Contains (option_to_list (option_map (λ list. listed list e.0) o)) (listed list place) → (o ≡ Some list) × (e.0 ≡ place)
  listed_as e None list place h = absurd (none_in (listed list place) h)
  listed_as e (Some other) list place h =
      let one : listed other e.0 ≡ listed list place = one_in (listed other e.0) (listed list place) h in
      (ap (λ (x : Listed). Some x.list) one, ap (λ (x : Listed). x.place) one)

  shown-from : (list : l.List) (place : Place) (es : List (Place × GroupedReceipt))
      → AllByRecursion (λ e. get g.receipts e.0 ≡ Some e.1) es
      → Contains (flat_map (λ e. option_to_list (receipt_listing g e)) es) (listed list place) → Shown list place
  shown-from list place [] a h = absurd (none_in (listed list place) h)
  shown-from list place (e ∷ es) a h =
      elim (Contains-append_cases (option_to_list (receipt_listing g e)) (flat_map (λ e. option_to_list (receipt_listing g e)) es)
      (listed list place) h) [
        | inl here ↦
            let one = listed_as e (list_of_standing (receipt_standing g e.0 e.1)) list place here in
            subst (Shown list) one.1 (e.1, a.0, one.0)
        | inr later ↦ shown-from list place es a.1 later
      ]

  listed_one : (place : Place) (o : Option l.List) (list : l.List) → o ≡ Some list
      → Contains (option_to_list (option_map (λ list. listed list place) o)) (listed list place)
  listed_one place o list e = subst (λ (p : Option l.List). Contains (option_to_list (option_map (λ list. listed list place) p))
      (listed list place)) (sym e) (0, omega arith, refl)

  some_is : (x y : GroupedReceipt) → Some x ≡ Some y → x ≡ y
  some_is x y e = cc

  shown-in : (list : l.List) (place : Place) (r : GroupedReceipt) (es : List (Place × GroupedReceipt))
      → find place_cmp place es ≡ Some r → list_of_standing (receipt_standing g place r) ≡ Some list
      → Contains (flat_map (λ e. option_to_list (receipt_listing g e)) es) (listed list place)
  shown-in list place r [] found s = absurd cc
  shown-in list place r (e ∷ es) found s =
      elim (eq_by_cmp place_cmp place e.0) as (λ b. eq_by_cmp place_cmp place e.0 ≡ b → cond b (Some e.1) (find place_cmp place es)
      ≡ Some r → Contains (option_to_list (receipt_listing g e) ++ flat_map (λ e. option_to_list (receipt_listing g e)) es)
      (listed list place)) [
        | true ↦ λ t is.
            let same : place ≡ e.0 = maps.same_key places_total places_exact place e.0 t in
            Contains-append_left (option_to_list (receipt_listing g e)) _ (listed list place)
            (subst (λ (x : Place × GroupedReceipt). Contains (option_to_list (receipt_listing g x)) (listed list place))
            (λ i. (same i, sym (some_is e.1 r is) i)) (listed_one place (list_of_standing (receipt_standing g place r)) list s))
        | false ↦ λ t is. Contains-append_right (option_to_list (receipt_listing g e)) _ (listed list place) (shown-in list place r es is s)
      ] refl found

  shown : (list : l.List) (place : Place) → Contains (receipt_notes g) (listed list place) ↔ Shown list place
  shown list place = (
    λ h. shown-from list place (entries g.receipts) (maps.get-entry places_total places_exact g.receipts) h,
    λ s. shown-in list place s.0 (entries g.receipts) (sym (get-entries g.receipts place) ∙ s.1) s.2,
  )

-- ---- which list a receipt has, by how many messages are accepted with its key

stray_none : (n : ℕ) (extra : Bool) → list_by n extra ≡ Some StrayReceipts → n ≡ 0
stray_none zero extra e = refl
stray_none (suc zero) true e = absurd cc
stray_none (suc zero) false e = absurd cc
stray_none (suc (suc n)) extra e = absurd cc

extra_one : (n : ℕ) (extra : Bool) → list_by n extra ≡ Some ExtraReceipts → (n ≡ 1) × (extra ≡ true)
extra_one zero extra e = absurd cc
extra_one (suc zero) true e = (refl, refl)
extra_one (suc zero) false e = absurd cc
extra_one (suc (suc n)) extra e = absurd cc

several_many : (n : ℕ) (extra : Bool) → list_by n extra ≡ Some AmbiguousReceipts → 1 < n
several_many zero extra e = absurd cc
several_many (suc zero) true e = absurd cc
several_many (suc zero) false e = absurd cc
several_many (suc (suc n)) extra e = omega arith

many_several : (n : ℕ) (extra : Bool) → 1 < n → list_by n extra ≡ Some AmbiguousReceipts
many_several zero extra h = absurd (omega (arith, h))
many_several (suc zero) extra h = absurd (omega (arith, h))
many_several (suc (suc n)) extra h = refl

-- ---- a number that isn't 0 comes from a place

module _ {X : Type 0} (test : X → Bool) (m : FinMap place_cmp X) where
  abbrev Passed : Type 0
  Passed = (q : Place) × (v : X) × (get m q ≡ Some v) × (test v ≡ true)

  passed-by : (es : List (Place × X)) → AllByRecursion (λ e. get m e.0 ≡ Some e.1) es → 0 < count_by test (map (λ e. e.1) es) → Passed
  passed-by [] a h = let none : count_by test [] ≡ 0 = refl in absurd (omega (arith, h, none))
  passed-by (e ∷ es) a h = by_test (test e.1) refl (λ rest. passed-by es a.1 rest)
    where
      by_test : (b : Bool) → test e.1 ≡ b → (0 < count_by test (map (λ e. e.1) es) → Passed) → Passed
      by_test true t later = (e.0, e.1, a.0, t)
      by_test false t later =
          let sum = sum_by-cons (λ x. cond (test x) 1 0) e.1 (map (λ e. e.1) es) in
          let none : ◌≡◌ {A = ℕ} (cond (test e.1) 1 0) 0 = ap (λ b. cond b 1 0) t in
          later (omega (arith, h, sum, none))

  passed : 0 < number_of test m → Passed
  passed h = passed-by (entries m) (maps.get-entry places_total places_exact m) h

-- ---- what the lists mean

module _ (g : Grouping) where
  -- the list of a receipt that is there
  list-at : (place : Place) (r : GroupedReceipt) → list_of_standing (receipt_standing g place r)
      ≡ list_by (matches g r.key) (r.decides && not (is_decider g place r.key))
  list-at place r = lists-alike (matches g r.key) (is_decider g place r.key) r.decides

  -- a message of the key, where any is accepted with it
  message-of : (key : LinkKey) → 0 < matches g key → (q : Place) × (get g.submits q ≡ Some key)
  message-of key h =
      let found = passed (same_key key) g.submits h in
      (found.0, found.2 ∙ ap Some (sym (one_key key found.1 found.3)))

  is-stray : (place : Place) → Shown g StrayReceipts place → IsStray g place
  is-stray place s =
      let none = stray_none _ _ (sym (list-at place s.0) ∙ s.2) in
      record {
        receipt = s.0;
        stands = s.1;
        unmatched = λ message there. let some = number-some (same_key s.0.key) g.submits message s.0.key there (own_key s.0.key) in
            absurd (omega (arith, some, none));
      }

  from-stray : (place : Place) → IsStray g place → Shown g StrayReceipts place
  from-stray place h =
      let key = h.receipt.key in
      let none : matches g key ≡ 0 = number-none (same_key key) g.submits
      (λ q k there. failing key k (same_key key k) refl (λ same. h.unmatched q (there ∙ ap Some (sym same)))) in
      (h.receipt, h.stands, list-at place h.receipt ∙ ap (λ n. list_by n (h.receipt.decides && not (is_decider g place key))) none)

  matches-several : (place : Place) → Shown g AmbiguousReceipts place → HasSharedKey g place
  matches-several place s =
      let key = s.0.key in
      let many = several_many _ _ (sym (list-at place s.0) ∙ s.2) in
      let one = message-of key (omega (arith, many)) in
      let some = number-some (same_key key) g.submits one.0 key one.1 (own_key key) in
      let more = passed (same_key key) (remove g.submits one.0) (omega (arith, many, some)) in
      let there = gone g.submits more.0 one.0 more.1 more.2 in
      record {
        receipt = s.0;
        stands = s.1;
        one = one.0;
        other = more.0;
        apart = λ same. there.0 (sym same);
        first = one.1;
        second = there.1 ∙ ap Some (sym (one_key key more.1 more.3));
      }

  from-several : (place : Place) → HasSharedKey g place → Shown g AmbiguousReceipts place
  from-several place h =
      let key = h.receipt.key in
      let some = number-some (same_key key) g.submits h.one key h.first (own_key key) in
      let more = number-some (same_key key) (remove g.submits h.one) h.other key
      (still-there g.submits h.other h.one (λ same. h.apart (sym same)) ∙ h.second) (own_key key) in (
        h.receipt,
        h.stands,
        list-at place h.receipt
            ∙ many_several (matches g key) (h.receipt.decides && not (is_decider g place key)) (omega (arith, some, more)),
      )

  both_true : (a b : Bool) → (a && b) ≡ true → (a ≡ true) × (b ≡ true)
  both_true true b e = (refl, e)
  both_true false b e = absurd (false≢true e)

  not_true : (b : Bool) → not b ≡ true → b ≡ false
  not_true true e = absurd (false≢true e)
  not_true false e = refl

  is-extra : (place : Place) → Shown g ExtraReceipts place → IsExtra g place
  is-extra place s =
      let key = s.0.key in
      let both = extra_one _ _ (sym (list-at place s.0) ∙ s.2) in
      let parts = both_true s.0.decides (not (is_decider g place key)) both.1 in
      let number : matches g key ≡ 1 = both.0 in
      let one = message-of key (omega (arith, number)) in
      record {
        receipt = s.0;
        stands = s.1;
        message = one.0;
        alone = only-one g key one.0 one.1 number;
        can = parts.0;
        decided = λ by. false≢true (sym (not_true (is_decider g place key) parts.1)
            ∙ ap (λ d. same_option (eq_by_cmp place_cmp) d (Some place)) by ∙ ap is_eq (tied_itself places_total place));
      }

  another : (d : Option Place) (place : Place) → (d ≡ Some place → ⊥) → same_option (eq_by_cmp place_cmp) d (Some place) ≡ false
  another None place ne = refl
  another (Some q) place ne = by_test (eq_by_cmp place_cmp q place) refl
    where
      by_test : (b : Bool) → eq_by_cmp place_cmp q place ≡ b → b ≡ false
      by_test true e = absurd (ne (ap Some (maps.same_key places_total places_exact q place e)))
      by_test false e = refl

  from-extra : (place : Place) → IsExtra g place → Shown g ExtraReceipts place
  from-extra place h =
      let key = h.receipt.key in (
        h.receipt,
        h.stands,
        list-at place h.receipt
            ∙ (λ i. list_by (alone-one g key h.message h.alone i) (h.can i && not (another (decider g key) place h.decided i))),
      )

  -- a receipt is listed as a stray, as one of several messages, as extra
  pub listed-stray : (place : Place) → Contains (receipt_notes g) (listed StrayReceipts place) ↔ IsStray g place
  listed-stray place = (λ h. is-stray place ((shown g StrayReceipts place).0 h), λ h. (shown g StrayReceipts place).1 (from-stray place h))

  pub listed-several : (place : Place) → Contains (receipt_notes g) (listed AmbiguousReceipts place) ↔ HasSharedKey g place
  listed-several place = (
    λ h. matches-several place ((shown g AmbiguousReceipts place).0 h),
    λ h.
        (shown g AmbiguousReceipts place).1 (from-several place h),
  )

  pub listed-extra : (place : Place) → Contains (receipt_notes g) (listed ExtraReceipts place) ↔ IsExtra g place
  listed-extra place = (λ h. is-extra place ((shown g ExtraReceipts place).0 h), λ h. (shown g ExtraReceipts place).1 (from-extra place h))
