-- What is known of a stored message, and in which list a stored receipt stands; entries and facts as they are stored.
use Rattle.std.proofs.Common.{◌≡◌, ℕ, Bool, true, false, List, Option, Some, None, refl, sym, ap, ◌∙◌}
use Rattle.std.specs.Prelude.{is_some, option_and_then, option_map}
use Rattle.std.specs.Option.{option_or}
use Rattle.std.specs.FinMap.{FinMap, contains_key, from_entries, get, insert, remove}
use Rattle.std.specs.List.Sorted.{IsStrictlySortedBy}
use Rattle.std.specs.Map.{keys_of, lookup, remove_entry}
use Rattle.std.specs.BTreeMap.{is_at, insert_entry}
use Rattle.smq_kit.specs.Maps.{set_at}
use Rattle.smq_kit.specs.Orders.{kept_place_cmp, place_cmp}
use Rattle.smq_kit.specs.declared.names.RouteId.{RouteId}
use Rattle.smq_kit.specs.declared.place.Place.{Place}
use Rattle.smq_kit.specs.declared.link_key.LinkKey.{LinkKey}
use Rattle.smq_kit.proofs.PlaceOrders.{place-order, places_total, places_exact}
use Rattle.smq_kit.proofs.MapLemmas.{get-chosen, set-same}
use Rattle.smq_shelf.proofs.Seen.{inserted, looked_up, removed}
use Rattle.smq_tally.specs.declared.fact.Fact.{Fact}
use Rattle.smq_group.specs.declared.change.Standing as told
use Rattle.smq_group.specs.Changes.{receipt_at, submit_at, told_of_receipt, told_of_submit}
use Rattle.smq_group.specs.Matching as m
use Rattle.smq_group.specs.Matching.{Grouping, GroupedReceipt, receipt_standing, submit_standing}
use Rattle.smq_group.specs.Standings.{standing_at}
use Rattle.smq_present.specs.present.Settings.{SettingsValue}
use Rattle.smq_present.specs.pairing.Traffic.{Message, ReceivedReceipt, TrafficValue}
use Rattle.smq_present.specs.join.Circumstances.{circumstances, circumstances_by, decider_in, lapsed_in, route_in, standing_in}
use Rattle.smq_present.specs.join.Facts.{fact_in_circumstances, facts_of}
use Rattle.smq_present.specs.join.Keyed.{accepted_key, grouping_of, keyed_receipt}
use Rattle.smq_present.specs.join.Listings.{list_of_standing}
use Rattle.smq_present.specs.join.Outcomes.{is_shared}
use Rattle.smq_book.specs.edits.Told.{list_told}
use Rattle.smq_book.specs.index.Stored.{is_told_shared}
use Rattle.smq_book.specs.index.Held.{AreOf, decider_held, list_by, list_held}

-- ---- stored entries as finite maps

module _ {X : Type 0} where
  -- what is looked up at a place is what the map has there
  pub stored-at : (es : List (Place × X)) (q : Place) → lookup (is_at (kept_place_cmp q)) es ≡ get (from_entries {R = place_cmp} es) q
  stored-at es q = sym (looked_up places_total places_exact place-order es q)

  -- the map where a place is set
  pub stored-put : (es : List (Place × X)) (q : Place) (x : X) → from_entries {R = place_cmp} (insert_entry kept_place_cmp es q x)
      ≡ insert (from_entries es) q x
  stored-put es q x = inserted places_total places_exact place-order es q x

  -- the map where a place is taken out
  pub stored-gone : (es : List (Place × X)) (q : Place) → IsStrictlySortedBy kept_place_cmp (keys_of es)
      → from_entries {R = place_cmp} (remove_entry (is_at (kept_place_cmp q)) es) ≡ remove (from_entries es) q
  stored-gone es q sorted = removed places_total places_exact place-order es q sorted

-- ---- facts that are set

-- where a place has no fact, none is taken out
pub fact-free : (facts : FinMap place_cmp Fact) (q : Place) → contains_key facts q ≡ false → facts ≡ remove facts q
fact-free facts q free = sym (ap (set_at facts q) (sym (none (get facts q) free)) ∙ set-same places_total places_exact facts q)
  where
    none : (x : Option Fact) → is_some x ≡ false → x ≡ None
    none None h = refl
    none (Some f) h = absurd cc

-- ---- standings as they are told

told-shared : (o : Option m.Standing) → is_told_shared (option_map told_of_submit o) ≡ is_shared o
told-shared None = refl
told-shared (Some (m.Single p)) = refl
told-shared (Some m.Shared) = refl

told-decider : (u : TrafficValue) (o : Option m.Standing) → decider_held u.receipts (option_map told_of_submit o) ≡ decider_in u o
told-decider u None = refl
told-decider u (Some (m.Single None)) = refl
told-decider u (Some (m.Single (Some p))) = refl
told-decider u (Some m.Shared) = refl

told-list : (r : m.ReceiptStanding) → list_told (told_of_receipt r) ≡ list_of_standing r
told-list m.Stray = refl
told-list m.Deciding = refl
told-list m.Extra = refl
told-list m.Noted = refl
told-list m.KeyShared = refl

or-none : {X : Type 0} (a : Option X) → option_or a None ≡ a
or-none None = refl
or-none (Some x) = refl

-- ---- of one place

module _ (s : SettingsValue) (u : TrafficValue) (g : Grouping) (are : AreOf s u g) (q : Place) where
  pub at-submits : get g.submits q ≡ option_and_then (λ (m : Message). accepted_key s m) (get u.messages q)
  at-submits = ap (λ (x : Grouping). get x.submits q) are.grouped ∙ get-chosen places_total places_exact (λ place m. accepted_key s m) u.messages q

  pub at-receipts : get g.receipts q ≡ option_and_then (λ (r : ReceivedReceipt). Some (keyed_receipt s r)) (get u.receipts q)
  at-receipts = ap (λ (x : Grouping). get x.receipts q) are.grouped
      ∙ get-chosen places_total places_exact (λ place r. Some (keyed_receipt s r)) u.receipts q

  -- a message's standing is that of its key
  pub message-standing : (m : Message) → get u.messages q ≡ Some m → standing_at g q ≡ option_map told_of_submit (standing_in g s m)
  message-standing m there =
      (λ i. option_or (submits i) (receipts i)) ∙ or-none (option_map told_of_submit (standing_in g s m))
    where
      by : (o : Option LinkKey) → option_map (λ key. told_of_submit (submit_standing g key)) o
          ≡ option_map told_of_submit (option_map (submit_standing g) o)
      by None = refl
      by (Some key) = refl

      submits : submit_at g q ≡ option_map told_of_submit (standing_in g s m)
      submits = ap (option_map (λ key. told_of_submit (submit_standing g key))) (at-submits
          ∙ ap (option_and_then (λ (m : Message). accepted_key s m)) there) ∙ by (accepted_key s m)

      receipts : receipt_at g q ≡ None
      receipts = ap (option_map (λ (r : GroupedReceipt). told_of_receipt (receipt_standing g q r)))
          (at-receipts ∙ ap (option_and_then (λ (r : ReceivedReceipt). Some (keyed_receipt s r))) (are.apart q m there))

  -- what is known of it
  pub fact-there : (m : Message) → get u.messages q ≡ Some m → get (facts_of s u) q
      ≡ Some (fact_in_circumstances q m (record {
        standing = standing_in g s m;
        decider = decider_held u.receipts (standing_at g q);
        route = route_in s.versions m;
        lapsed = lapsed_in s m;
      }))
  fact-there m there =
      get-chosen places_total places_exact (λ place m. Some (fact_in_circumstances place m (circumstances s u m))) u.messages q
      ∙ ap (option_and_then (λ (m : Message). Some (fact_in_circumstances q m (circumstances s u m)))) there
      ∙ (λ i. Some (fact_in_circumstances q m (record {
        standing = standing_in (grouped i) s m;
        decider = (decider i);
        route = route_in s.versions m;
        lapsed = lapsed_in s m;
      })))
    where
      grouped : grouping_of s u ≡ g
      grouped = sym are.grouped

      decider : decider_in u (standing_in (grouping_of s u) s m) ≡ decider_held u.receipts (standing_at g q)
      decider = ap (λ (x : Grouping). decider_in u (standing_in x s m)) grouped ∙ sym (told-decider u (standing_in g s m))
          ∙ sym (ap (decider_held u.receipts) (message-standing m there))

  pub fact-absent : get u.messages q ≡ None → get (facts_of s u) q ≡ None
  fact-absent none =
      get-chosen places_total places_exact (λ place m. Some (fact_in_circumstances place m (circumstances s u m))) u.messages q
      ∙ ap (option_and_then (λ (m : Message). Some (fact_in_circumstances q m (circumstances s u m)))) none

  pub shared-there : (m : Message) → get u.messages q ≡ Some m → is_shared (standing_in g s m) ≡ is_told_shared (standing_at g q)
  shared-there m there = sym (told-shared (standing_in g s m)) ∙ sym (ap is_told_shared (message-standing m there))

  -- a fact by the standing that is told, the receipt that it gives, and what is set
  pub fact-is : (m : Message) (standing : Option told.Standing) (decider : Option ReceivedReceipt) (route : Option (RouteId × List ℕ))
      (lapsed : Bool) (f : Fact)
      → get u.messages q ≡ Some m → standing ≡ standing_at g q → decider ≡ decider_held u.receipts standing → route ≡ route_in s.versions m
      → lapsed ≡ lapsed_in s m
      → f ≡ fact_in_circumstances q m (circumstances_by (standing_in g s m) decider route lapsed)
      → Some f ≡ get (facts_of s u) q
  fact-is m standing decider route lapsed f there told decides routed lapses is =
      ap Some is
      ∙ (λ i. Some (fact_in_circumstances q m (circumstances_by (standing_in g s m) ((decides ∙ ap (decider_held u.receipts) told) i) (routed i) (lapses i))))
      ∙ sym (fact-there m there)

  -- where no message stands, the list that is told is that of the receipt
  pub list-told : get u.messages q ≡ None → list_by true (standing_at g q) ≡ list_held g q
  list-told none = ap (λ (o : Option told.Standing). option_and_then list_told (option_or o (receipt_at g q))) gone ∙ by (get g.receipts q)
    where
      gone : submit_at g q ≡ None
      gone = ap (option_map (λ key. told_of_submit (submit_standing g key))) (at-submits
          ∙ ap (option_and_then (λ (m : Message). accepted_key s m)) none)

      by : (o : Option GroupedReceipt) → option_and_then list_told (option_map (λ (r : GroupedReceipt). told_of_receipt (receipt_standing g q r)) o)
          ≡ option_and_then (λ (r : GroupedReceipt). list_of_standing (receipt_standing g q r)) o
      by None = refl
      by (Some r) = told-list (receipt_standing g q r)

-- nobody stands where no message that is accepted does, and no receipt
pub stands-none : (g : Grouping) (q : Place) → get g.submits q ≡ None → get g.receipts q ≡ None → None ≡ standing_at g q
stands-none g q submits receipts = sym (λ i. option_or (option_map (λ key. told_of_submit (submit_standing g key)) (submits i))
    (option_map (λ (r : GroupedReceipt). told_of_receipt (receipt_standing g q r)) (receipts i)))
