-- How the members of groups that are written out stand, by the entries of their maps.
use Rattle.std.proofs.Common.{◌≡◌, ℕ, Bool, true, false, cond, List, [], ◌∷◌, ◌++◌, Option, Some, None, refl, sym, ap, ◌∙◌, subst, map, filter}
use Rattle.std.specs.Prelude.{T, ◌&&◌, ◌==◌, not, count_by, option_map}
use Rattle.std.specs.Ordering.{eq_by_cmp}
use Rattle.std.specs.List.{AllByRecursion, flat_map, reduce}
use Rattle.std.specs.List.Sorted.{IsStrictlySortedBy}
use Rattle.std.specs.FinMap.{entries, find, from_entries, get-from_entries, is_sorted, keys}
use Rattle.smq_kit.specs.declared.place.Place.{Place}
use Rattle.smq_kit.specs.declared.link_key.LinkKey.{LinkKey}
use Rattle.smq_kit.specs.Maps.{chosen, kept_of, same_option}
use Rattle.smq_kit.specs.Orders.{place_cmp}
use Rattle.smq_kit.specs.LinkKeys.{same_key}
use Rattle.smq_kit.proofs.PlaceOrders.{places_total, places_exact}
use Rattle.smq_kit.proofs.MapLemmas.{entries-chosen, entries-from_entries}
use Rattle.smq_group.specs.declared.change.Change.{Change}
use Rattle.smq_group.specs.declared.change.Standing.{Standing}
use Rattle.smq_group.specs.Changes.{TellsChanges, changed, receipt_at, submit_at, told_at, told_of_receipt, told_of_submit}
use Rattle.smq_group.specs.Known.{grouped}
use Rattle.smq_group.specs.Matching as m
use Rattle.smq_group.specs.Matching.{GroupedReceipt, earlier}
use Rattle.smq_group.proofs.Placing.{same_place}

-- the same words of lists of entries
abbrev number : List (Place × LinkKey) → LinkKey → ℕ
number es key = count_by (same_key key) (map (λ e. e.1) es)

abbrev decided : List (Place × GroupedReceipt) → LinkKey → Option Place
decided rs key = option_map (λ c. c.1) (reduce earlier (map (λ e. (e.1.moment, e.0)) (filter (λ e. same_key key e.1.key && e.1.decides) rs)))

abbrev pub accepted : List (Place × LinkKey) → List (Place × GroupedReceipt) → Place → LinkKey → Standing
accepted es rs q key = told_of_submit (cond (number es key == 1) (m.Single (decided rs key)) m.Shared)

abbrev pub received : List (Place × LinkKey) → List (Place × GroupedReceipt) → Place → GroupedReceipt → Standing
received es rs q r = told_of_receipt (cond (number es r.key == 0) m.Stray
    (cond (not (number es r.key == 1)) m.KeyShared
    (cond (same_option (eq_by_cmp place_cmp) (decided rs r.key) (Some q)) m.Deciding
    (cond r.decides m.Extra m.Noted))))

module _ (es : List (Place × LinkKey)) (rs : List (Place × GroupedReceipt)) (se : T (is_sorted place_cmp es)) (sr : T (is_sorted place_cmp rs)) where
  is_es : entries (from_entries {R = place_cmp} es) ≡ es
  is_es = entries-from_entries places_total places_exact es se

  is_rs : entries (from_entries {R = place_cmp} rs) ≡ rs
  is_rs = entries-from_entries places_total places_exact rs sr

  pub submit-listed : (q : Place) → submit_at (grouped es rs) q ≡ option_map (accepted es rs q) (find place_cmp q es)
  submit-listed q = λ i. option_map (accepted (is_es i) (is_rs i) q) (get-from_entries places_total es q i)

  pub receipt-listed : (q : Place) → receipt_at (grouped es rs) q ≡ option_map (received es rs q) (find place_cmp q rs)
  receipt-listed q = λ i. option_map (received (is_es i) (is_rs i) q) (get-from_entries places_total rs q i)

-- what is chosen of entries
pub chosen-listed : {X Y : Type 0} (f : Place → X → Option Y) (es : List (Place × X)) → T (is_sorted place_cmp es) → keys (chosen f (from_entries {R = place_cmp} es)) ≡ map (λ e. e.0) (flat_map (kept_of f) es)
chosen-listed f es so = ap (map (λ e. e.0)) (entries-chosen places_total places_exact f (from_entries es) ∙ ap (flat_map (kept_of f)) (entries-from_entries places_total places_exact es so))

-- ---- what is told of them

absent : {X : Type 0} (q : Place) (es : List (Place × X)) → AllByRecursion (λ e. eq_by_cmp place_cmp q e.0 ≡ false) es → find place_cmp q es ≡ None
absent q [] a = refl
absent q (e ∷ es) a = ap (λ b. cond b (Some e.1) (find place_cmp q es)) a.0 ∙ absent q es a.1

untold : (q : Place) (cs : List Change) → AllByRecursion (λ (c : Change). eq_by_cmp place_cmp q c.place ≡ false) cs → told_at q cs ≡ None
untold q [] a = refl
untold q (c ∷ cs) a = ap (λ b. cond b (Some c.standing) (told_at q cs)) a.0 ∙ untold q cs a.1

module _ {X : Type 0} (was is : Place → X → Standing) (es es' : List (Place × X)) (cs : List Change) where
  abbrev pub ToldAt : Place → Type 0
  ToldAt q = told_at q cs ≡ changed (option_map (was q) (find place_cmp q es)) (option_map (is q) (find place_cmp q es'))

  -- no member stands at another place than these two, before or after, and none is told
  abbrev pub NoOther : Place → Place → Type 0
  NoOther a b = (q : Place) → eq_by_cmp place_cmp q a ≡ false → eq_by_cmp place_cmp q b ≡ false → AllByRecursion (λ e. eq_by_cmp place_cmp q e.0 ≡ false) es
      × AllByRecursion (λ e. eq_by_cmp place_cmp q e.0 ≡ false) es' × AllByRecursion (λ (c : Change). eq_by_cmp place_cmp q c.place ≡ false) cs

  -- so what is told of these two is told of every place
  told-everywhere : (a b : Place) → ToldAt a → ToldAt b → NoOther a b → (q : Place) → ToldAt q
  told-everywhere a b pa pb other q = by (eq_by_cmp place_cmp q a) (eq_by_cmp place_cmp q b) refl refl
    where
      by : (s t : Bool) → eq_by_cmp place_cmp q a ≡ s → eq_by_cmp place_cmp q b ≡ t → ToldAt q
      by true t e f = subst ToldAt (sym (same_place q a e)) pa
      by false true e f = subst ToldAt (sym (same_place q b f)) pb
      by false false e f =
          let all = other q e f in
          untold q cs all.2 ∙ sym (λ i. changed (option_map (was q) (absent q es all.0 i)) (option_map (is q) (absent q es' all.1 i)))

module _ (es es' : List (Place × LinkKey)) (rs rs' : List (Place × GroupedReceipt)) (submits receipts : List Change) where
  pub tells-known : T (is_sorted place_cmp es) → T (is_sorted place_cmp es') → T (is_sorted place_cmp rs) → T (is_sorted place_cmp rs')
      → IsStrictlySortedBy place_cmp (map (λ (c : Change). c.place) submits) → IsStrictlySortedBy place_cmp (map (λ (c : Change). c.place) receipts)
      → (a b : Place) → ToldAt (accepted es rs) (accepted es' rs') es es' submits a → ToldAt (accepted es rs) (accepted es' rs') es es' submits b
      → NoOther (accepted es rs) (accepted es' rs') es es' submits a b
      → (c d : Place) → ToldAt (received es rs) (received es' rs') rs rs' receipts c → ToldAt (received es rs) (received es' rs') rs rs' receipts d
      → NoOther (received es rs) (received es' rs') rs rs' receipts c d → TellsChanges (grouped es rs) (grouped es' rs') (submits ++ receipts)
  tells-known se se' sr sr' so ro a b sa sb s c d rc rd r = record {
    submits = submits;
    receipts = receipts;
    parts = refl;
    submits_by_place = so;
    receipts_by_place = ro;
    each_submit = λ q. told-everywhere (accepted es rs) (accepted es' rs') es es' submits a b sa sb s q ∙ sym (λ i. changed (submit-listed es rs se sr q i) (submit-listed es' rs' se' sr' q i));
    each_receipt = λ q. told-everywhere (received es rs) (received es' rs') rs rs' receipts c d rc rd r q ∙ sym (λ i. changed (receipt-listed es rs se sr q i) (receipt-listed es' rs' se' sr' q i));
  }
