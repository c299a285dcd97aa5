-- The facts by place are the facts of the lists.
use Rattle.std.proofs.Common.{◌≡◌, ℕ, zero, suc, Bool, true, false, cond, List, [], ◌∷◌, Option, Some, None, refl, ap, ◌∙◌, subst}
use Rattle.std.specs.Prelude.{T, ◌&&◌, ◌==◌, map, filter, count_by, option_map, option_and_then, slice_get}
use Rattle.std.specs.List.{flat_map, reduce}
use Rattle.std.specs.Cmp.{IsTotalOrder}
use Rattle.std.specs.FinMap.{get, values, find, is_sorted, get-from_entries}
use Rattle.std.proofs.lemmas.Cmp.{on_total, then_total, nat_cmp_total}
use Rattle.smq_kit.specs.Maps.{kept_of}
use Rattle.smq_kit.specs.Orders.{place_cmp}
use Rattle.smq_kit.proofs.PlaceOrders.{places_total, places_exact}
use Rattle.smq_kit.proofs.MapLemmas as maps
use Rattle.smq_kit.specs.declared.link_key.LinkKey.{LinkKey}
use Rattle.smq_present.specs.present.Settings.{SettingsValue}
use Rattle.smq_tally.specs.declared.list.Listed.{Listed}
use Rattle.smq_present.specs.pairing.Traffic.{TrafficValue, traffic_among}
use Rattle.smq_kit.specs.LinkKeys.{same_key}
use Rattle.smq_group.specs.Matching.{Grouping, Single, Shared, candidates, decider, earlier, matches, submit_standing}
use Rattle.smq_present.specs.join.Keyed.{grouping_of, accepted_key, keyed_receipt, can_decide}
use Rattle.smq_present.specs.join.Circumstances.{circumstances, standing_in, decider_in, route_in, lapsed_in}
use Rattle.smq_present.specs.join.Facts.{fact_in_circumstances, facts_of}
use Rattle.smq_present.specs.within.Accepted.{number_accepted, decider_of}
use Rattle.smq_present.specs.within.Messages.{SubmittedMessage}
use Rattle.smq_present.specs.within.Outcomes as listed
use Rattle.smq_present.specs.within.Outcomes.{message_from, received, standing_of, circumstances_of}
use Rattle.smq_present.specs.within.Receipts as receipts
use Rattle.smq_present.specs.within.Receipts.{PlacedReceipt, KeyedReceipt, least_receipt}
use Rattle.smq_group.proofs.Least.{least-found}
use Rattle.smq_present.proofs.lemmas.join.AgreeLists.{message_entry, receipt_entry, Keyed, KeyedReceipts, numbers-agree, candidates-agree, candidate_of, least-of}

receipts_total : IsTotalOrder receipts.receipt_cmp
receipts_total = then_total (on_total (λ r. r.moment) nat_cmp_total) (on_total (λ r. r.place) places_total)

-- ---- the receipt that decides is found at its place

abbrev FoundIn : List KeyedReceipt → PlacedReceipt → Type 0
FoundIn xs r = find place_cmp r.place (map receipt_entry xs) ≡ Some (received r)

found-later : (x : KeyedReceipt) (xs : List KeyedReceipt) (r : PlacedReceipt) → T (is_sorted place_cmp (map receipt_entry (x ∷ xs)))
    → FoundIn xs r → FoundIn (x ∷ xs) r
found-later x xs r sorted f =
    maps.find-later places_total places_exact r.place (received r) (receipt_entry x) (map receipt_entry xs) sorted f

found-here : (x : KeyedReceipt) (xs : List KeyedReceipt) (r : PlacedReceipt) → Some x.1 ≡ Some r → FoundIn (x ∷ xs) r
found-here x xs r e =
    let one : x.1 ≡ r = cc in
    subst (λ r. FoundIn (x ∷ xs) r) one (maps.find-first places_total places_exact (receipt_entry x) (map receipt_entry xs))

found_by : (key : LinkKey) (x : KeyedReceipt) (xs : List KeyedReceipt) (r : PlacedReceipt) (b : Bool) (i : ℕ)
    → T (is_sorted place_cmp (map receipt_entry (x ∷ xs)))
    → ((j : ℕ) → slice_get (receipts.candidates key xs) j ≡ Some r → FoundIn xs r)
    → slice_get (map (λ e. e.1) (cond b (x ∷ filter (λ e. same_key key e.0 && can_decide e.1.receipt) xs)
    (filter (λ e. same_key key e.0 && can_decide e.1.receipt) xs))) i ≡ Some r
    → FoundIn (x ∷ xs) r
found_by key x xs r true zero sorted later e = found-here x xs r e
found_by key x xs r true (suc i) sorted later e = found-later x xs r sorted (later i e)
found_by key x xs r false i sorted later e = found-later x xs r sorted (later i e)

candidate-found : (key : LinkKey) (xs : List KeyedReceipt) (r : PlacedReceipt) (i : ℕ)
    → T (is_sorted place_cmp (map receipt_entry xs)) → slice_get (receipts.candidates key xs) i ≡ Some r → FoundIn xs r
candidate-found key [] r i sorted e = absurd cc
candidate-found key (x ∷ xs) r i sorted e =
    found_by key x xs r (same_key key x.0 && can_decide x.1.receipt) i sorted
    (λ j. candidate-found key xs r j (maps.sorted-behind places_total places_exact (receipt_entry x) (map receipt_entry xs) sorted)) e

-- ---- the facts agree

module _ (s : SettingsValue) (xs : List SubmittedMessage) (rs : List KeyedReceipt) (notes : List Listed) (keyed : Keyed s xs)
    (receipts_keyed : KeyedReceipts s rs)
    (messages_sorted : T (is_sorted place_cmp (map message_entry xs))) (receipts_sorted : T (is_sorted place_cmp (map receipt_entry rs))) where
  abbrev traffic : TrafficValue
  traffic = traffic_among (map message_entry xs) (map receipt_entry rs) notes

  pub matches-agree : (key : LinkKey) → matches (grouping_of s traffic) key ≡ number_accepted key xs
  matches-agree key =
      ap (λ es. count_by (same_key key) (map (λ e. e.1) es))
      (maps.entries-chosen places_total places_exact (λ place m. accepted_key s m) traffic.messages
      ∙ ap (flat_map (kept_of (λ place m. accepted_key s m)))
      (maps.entries-from_entries places_total places_exact (map message_entry xs) messages_sorted))
      ∙ numbers-agree s key xs keyed

  candidates-of : (key : LinkKey) → candidates (grouping_of s traffic) key ≡ map candidate_of (receipts.candidates key rs)
  candidates-of key =
      ap (λ es. map (λ e. (e.1.moment, e.0)) (filter (λ e. same_key key e.1.key && e.1.decides) es))
      (maps.entries-chosen places_total places_exact (λ place r. Some (keyed_receipt s r)) traffic.receipts
      ∙ ap (flat_map (kept_of (λ place r. Some (keyed_receipt s r))))
      (maps.entries-from_entries places_total places_exact (map receipt_entry rs) receipts_sorted))
      ∙ candidates-agree s key rs receipts_keyed

  abbrev groups : Grouping
  groups = grouping_of s traffic

  pub decider-of : (key : LinkKey) → decider groups key ≡ option_map (λ r. r.place) (least_receipt (receipts.candidates key rs))
  decider-of key =
      ap (λ cs. option_map (λ c. c.1) (reduce earlier cs)) (candidates-of key)
      ∙ ap (option_map (λ c. c.1)) (least-of (receipts.candidates key rs))
      ∙ elim (least_receipt (receipts.candidates key rs)) as (λ d. option_map (λ c. c.1) (option_map candidate_of d)
      ≡ option_map (λ r. r.place) d) [ None ↦ refl | Some r ↦ refl ]

  -- the receipt at the place of the one that decides
  decider-at : (key : LinkKey) (d : Option PlacedReceipt) → least_receipt (receipts.candidates key rs) ≡ d
      → option_and_then (λ place. get traffic.receipts place) (option_map (λ r. r.place) d) ≡ option_map received d
  decider-at key None e = refl
  decider-at key (Some r) e =
      let least = least-found receipts.receipt_cmp receipts_total (receipts.candidates key rs) r e in
      get-from_entries places_total (map receipt_entry rs) r.place ∙ candidate-found key rs r least.place receipts_sorted least.among

  standing-agrees : (key : LinkKey) → submit_standing groups key ≡ standing_of xs rs key
  standing-agrees key = λ i. cond (matches-agree key i == 1) (Single (decider-of key i)) Shared

  decided-by : (key : LinkKey) (single : Bool)
      → decider_in traffic (Some (cond single (Single (option_map (λ r. r.place) (least_receipt (receipts.candidates key rs)))) Shared))
      ≡ option_map received (cond single (least_receipt (receipts.candidates key rs)) None)
  decided-by key true = decider-at key (least_receipt (receipts.candidates key rs)) refl
  decided-by key false = refl

  decider-agrees : (key : Option LinkKey) → decider_in traffic (option_map (standing_of xs rs) key) ≡ option_map received (decider_of xs rs key)
  decider-agrees None = refl
  decider-agrees (Some key) = decided-by key (number_accepted key xs == 1)

  standings-agree : (key : Option LinkKey) → option_map (submit_standing groups) key ≡ option_map (standing_of xs rs) key
  standings-agree None = refl
  standings-agree (Some key) = ap Some (standing-agrees key)

  -- the circumstances by place are those of the lists
  pub circumstances-agree : (x : SubmittedMessage) → accepted_key s (message_from x) ≡ x.key
      → circumstances s traffic (message_from x) ≡ circumstances_of s xs rs x
  circumstances-agree x e =
      let standing : standing_in groups s (message_from x) ≡ option_map (standing_of xs rs) x.key =
      ap (option_map (submit_standing groups)) e ∙ standings-agree x.key in
      λ i. record {
        standing = standing i;
        decider = (ap (decider_in traffic) standing ∙ decider-agrees x.key) i;
        route = route_in s.versions (message_from x);
        lapsed = lapsed_in s (message_from x);
      }

  facts-map : (ys : List SubmittedMessage) → Keyed s ys
      → map (λ e. e.1) (flat_map (kept_of (λ place m. Some (fact_in_circumstances place m (circumstances s traffic m)))) (map message_entry ys))
      ≡ map (listed.fact_among s xs rs) ys
  facts-map [] h = refl
  facts-map (y ∷ ys) h = λ i. fact_in_circumstances y.place (message_from y) (circumstances-agree y h.0 i) ∷ facts-map ys h.1 i

  -- the facts by place, in order, are those of the lists
  pub facts-agree : values (facts_of s traffic) ≡ listed.facts_among s xs rs
  facts-agree =
      ap (λ es. map (λ e. e.1) es)
      (maps.entries-chosen places_total places_exact (λ place m. Some (fact_in_circumstances place m (circumstances s traffic m))) traffic.messages
      ∙ ap (flat_map (kept_of (λ place m. Some (fact_in_circumstances place m (circumstances s traffic m)))))
      (maps.entries-from_entries places_total places_exact (map message_entry xs) messages_sorted))
      ∙ facts-map xs keyed
