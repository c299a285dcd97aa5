-- What is held of nothing: the traffic of no session, under what is set at first.
use Rattle.std.proofs.Common.{◌≡◌, [], ◌++◌, Option, Some, None, sym, ap, subst, ◌∙◌}
use Rattle.std.specs.Cmp.{IsTotalOrder}
use Rattle.std.specs.Prelude.{if◌then◌else◌, map, option_to_list}
use Rattle.std.specs.List.{flat_map}
use Rattle.std.specs.declared.cmp.Ordering.{Ordering}
use Rattle.std.specs.FinMap.{IsAntisymmetric, empty, from_entries, keys, same_map, get-empty, get-from_entries}
use Rattle.std.specs.Ordering.{nat_cmp}
use Rattle.smq_kit.specs.declared.place.Place.{Place}
use Rattle.smq_kit.specs.Maps.{chosen, kept_of}
use Rattle.smq_kit.specs.Orders.{place_cmp}
use Rattle.smq_kit.proofs.PlaceOrders.{places_total, places_exact}
use Rattle.smq_group.specs.Groups.{no_members}
use Rattle.smq_group.specs.Matching.{GroupedReceipt}
use Rattle.smq_route.proofs.NumberOrders.{numbers_exact, numbers_total}
use Rattle.smq_tally.specs.declared.list.Listed.{Listed}
use Rattle.smq_tally.specs.Lists.{listed, listed_cmp, listed_set}
use Rattle.smq_tally.specs.within.ListOrder.{listed_total}
use Rattle.smq_tally.proofs.ListOrders.{listed_exact}
use Rattle.smq_tally.proofs.Undone.{no-entries}
use Rattle.smq_present.specs.declared.present.session.Session.{Session}
use Rattle.smq_present.specs.pairing.Traffic.{Message, ReceivedReceipt, TrafficValue, session_messages, session_notes, session_receipts, traffic_of}
use Rattle.smq_present.specs.present.Settings.{SettingsValue, opening_settings}
use Rattle.smq_present.specs.join.Circumstances.{circumstances}
use Rattle.smq_present.specs.join.Facts.{fact_in_circumstances, facts_of}
use Rattle.smq_present.specs.join.Keyed.{accepted_key, grouping_of, keyed_receipt}
use Rattle.smq_present.specs.join.Listings.{is_traffic_list, notes_of, receipt_listing, receipt_notes}
use Rattle.smq_book.specs.index.Due.{due_by_fact}
use Rattle.smq_book.specs.index.Ends.{end_by_fact}
use Rattle.smq_book.specs.index.Held.{IsHeld, IsTraffic, held_of, traffic_held, traffic_notes}
use Rattle.smq_book.specs.index.Numbered.{numbered}
use Rattle.smq_book.specs.index.Opening.{nothing_held}
use Rattle.smq_book.specs.index.PlacedKeys.{keys_made}
use Rattle.smq_book.proofs.lemmas.index.Due.{due_total, due_exact}
use Rattle.smq_book.proofs.lemmas.index.Ends.{end_total, end_exact}

-- no messages, receipts and notes
abbrev pub nothing_said : TrafficValue
nothing_said = record { messages = empty; receipts = empty; notes = empty }

no_value : {X : Type 0} (v : X) → None ≡ Some v → ⊥
no_value v e = absurd cc

module _ {K X : Type 0} {R : K → K → Ordering} (o : IsTotalOrder R) (exact : IsAntisymmetric R) where
  -- a map of no entries is the empty one
  made-none : from_entries {X = X} {R = R} [] ≡ empty
  made-none = same_map o exact (from_entries []) empty (λ q. get-from_entries o [] q ∙ sym (get-empty R q))

-- of nothing, nothing is chosen, and no key is made
module _ {X Y : Type 0} (f : Place → X → Option Y) where
  chosen-none : chosen {R = place_cmp} f empty ≡ empty
  unfolding chosen
  chosen-none = ap (λ es. from_entries (flat_map (kept_of f) es)) (no-entries place_cmp X) ∙ made-none places_total places_exact

module _ {X K : Type 0} {R : K → K → Ordering} (o : IsTotalOrder R) (exact : IsAntisymmetric R) (f : Place → X → Option K) where
  keys-none : keys_made {R = R} f empty ≡ empty
  unfolding keys_made
  keys-none =
      ap (λ es. from_entries (map (λ k. (k, tt)) (flat_map (λ e. option_to_list (f e.0 e.1)) es))) (no-entries place_cmp X)
      ∙ made-none o exact

no-keys : keys (empty {X = Unit {0}} {R = listed_cmp}) ≡ []
no-keys = ap (map (λ e. e.0)) (no-entries listed_cmp (Unit {0}))

-- ---- members, facts, notes and keys of no traffic

module _ (s : SettingsValue) where
  members-none : grouping_of s nothing_said ≡ no_members
  members-none = λ i. record {
    submits = chosen-none (λ place (m : Message). accepted_key s m) i;
    receipts = chosen-none (λ place (r : ReceivedReceipt). Some (keyed_receipt s r)) i;
  }

  none-listed : receipt_notes no_members ≡ []
  none-listed = ap (flat_map (λ e. option_to_list (receipt_listing no_members e))) (no-entries place_cmp GroupedReceipt)

  notes-none : notes_of s nothing_said ≡ empty
  notes-none =
      (λ i. listed_set (no-keys i ++ receipt_notes (members-none i))) ∙ ap listed_set none-listed ∙ made-none listed_total listed_exact

  facts-none : facts_of s nothing_said ≡ empty
  facts-none = chosen-none (λ place (m : Message). Some (fact_in_circumstances place m (circumstances s nothing_said m)))

  held-none : held_of s nothing_said ≡ nothing_held
  held-none = λ i. record {
    messages = empty;
    receipts = empty;
    members = members-none i;
    facts = facts-none i;
    notes = notes-none i;
    due = keys-none due_total due_exact (due_by_fact (facts_of s nothing_said)) i;
    ends = keys-none end_total end_exact (end_by_fact s.windows (facts_of s nothing_said)) i;
    numbers = keys-none numbers_total numbers_exact numbered i;
  }

-- ---- the traffic of it

chosen-no-note : traffic_notes empty ≡ empty
unfolding chosen
chosen-no-note = ap (λ es. from_entries (flat_map (kept_of (λ (note : Listed) (_ : Unit {0}). if is_traffic_list note.list then Some (tt {0}) else None)) es)) (no-entries listed_cmp (Unit {0})) ∙ made-none listed_total listed_exact

traffic-none : traffic_held nothing_held ≡ nothing_said
traffic-none = λ i. record {
  messages = empty;
  receipts = empty;
  notes = chosen-no-note i;
}

is-traffic : IsTraffic nothing_said
is-traffic = record {
  messages = λ place m there. absurd (no_value m (sym (get-empty place_cmp place) ∙ there));
  receipts = λ place r there. absurd (no_value r (sym (get-empty place_cmp place) ∙ there));
  unlisted = λ place. record { none = λ list one. get-empty listed_cmp (listed list place) };
}

pub nothing-is-held : IsHeld opening_settings nothing_held
nothing-is-held = record {
  held = sym (held-none opening_settings) ∙ ap (held_of opening_settings) (sym traffic-none);
  traffic = subst IsTraffic (sym traffic-none) is-traffic;
}

pub nothing-is-said : traffic_held nothing_held ≡ traffic_of empty
nothing-is-said = traffic-none ∙ sym (λ i. record {
  messages = (ap (λ es. from_entries (flat_map session_messages es)) (no-entries nat_cmp Session) ∙ made-none places_total places_exact) i;
  receipts = (ap (λ es. from_entries (flat_map session_receipts es)) (no-entries nat_cmp Session) ∙ made-none places_total places_exact) i;
  notes = (ap (λ es. listed_set (flat_map session_notes es)) (no-entries nat_cmp Session) ∙ made-none listed_total listed_exact) i;
})
