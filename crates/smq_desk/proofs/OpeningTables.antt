-- The tables of no facts and no notes are those of what no entry leaves present.
use Rattle.std.proofs.Common.{◌≡◌, List, [], ◌++◌, Option, Some, sym, ap, subst, ◌∙◌}
use Rattle.std.specs.Prelude.{map, option_to_list}
use Rattle.std.specs.List.{flat_map}
use Rattle.std.specs.FinMap.{empty, entries, from_entries, keys}
use Rattle.std.specs.Ordering.{nat_cmp}
use Rattle.smq_kit.specs.declared.place.Place.{Place}
use Rattle.smq_kit.specs.Maps.{chosen, kept_of}
use Rattle.smq_kit.specs.Orders.{place_cmp}
use Rattle.smq_tally.specs.Lists.{listed_cmp, listed_set}
use Rattle.smq_tally.specs.Tables.{TablesValue, facts_at, tables_of}
use Rattle.smq_tally.proofs.Undone.{no-entries}
use Rattle.smq_present.specs.declared.present.session.Session.{Session}
use Rattle.smq_present.specs.present.Settings.{SettingsValue, opening_settings}
use Rattle.smq_present.specs.pairing.Traffic.{Message, ReceivedReceipt, TrafficValue, session_messages, session_notes, session_receipts, traffic_among, traffic_of}
use Rattle.smq_present.specs.join.Circumstances.{circumstances}
use Rattle.smq_present.specs.join.Facts.{fact_in_circumstances, facts_of}
use Rattle.smq_present.specs.join.Keyed.{grouping_of, keyed_receipt}
use Rattle.smq_present.specs.join.Listings.{notes_of, receipt_listing, receipt_notes}
use Rattle.smq_present.specs.whole.Scratch.{scratch}
use Rattle.smq_desk.specs.declared.entry.Entry.{Entry}
use Rattle.smq_desk.specs.Editions.{AreOfOneHistory}
use Rattle.smq_desk.specs.History.{replay, IsLegal}

-- no messages, receipts and notes
abbrev nothing : TrafficValue
nothing = record { messages = empty; receipts = empty; notes = empty }

traffic-none : traffic_of empty ≡ nothing
traffic-none =
    ap (λ es. traffic_among (flat_map session_messages es) (flat_map session_receipts es) (flat_map session_notes es))
    (no-entries nat_cmp Session)

-- of nothing, nothing is chosen
module _ {X Y : Type 0} (f : Place → X → Option Y) where
  chosen-none : chosen {R = place_cmp} f empty ≡ empty
  unfolding chosen
  chosen-none = ap (λ es. from_entries (flat_map (kept_of f) es)) (no-entries place_cmp X)

module _ (s : SettingsValue) where
  facts-none : facts_of s nothing ≡ empty
  facts-none = chosen-none (λ place (m : Message). Some (fact_in_circumstances place m (circumstances s nothing m)))

  keys-none : keys (empty {X = Unit {0}} {R = listed_cmp}) ≡ []
  keys-none = ap (map (λ e. e.0)) (no-entries listed_cmp (Unit {0}))

  none-listed : receipt_notes (grouping_of s nothing) ≡ []
  none-listed =
      ap (λ m. flat_map (λ e. option_to_list (receipt_listing (grouping_of s nothing) e)) (entries m))
      (chosen-none (λ place (r : ReceivedReceipt). Some (keyed_receipt s r)))
      ∙ ap (flat_map (λ e. option_to_list (receipt_listing (grouping_of s nothing) e))) (no-entries place_cmp _)

  notes-none : notes_of s nothing ≡ empty
  notes-none = λ i. listed_set (keys-none i ++ none-listed i)

tables-none : tables_of (facts_at []) (listed_set []) ≡ scratch (replay [])
tables-none =
    (λ i. tables_of (sym (facts-none opening_settings) i) (sym (notes-none opening_settings) i))
    ∙ ap (λ t. tables_of (facts_of opening_settings t) (notes_of opening_settings t)) (sym traffic-none)

pub opens : (es : List Entry) (shown : TablesValue) → es ≡ [] → shown ≡ tables_of (facts_at []) (listed_set [])
    → AreOfOneHistory es shown
opens es shown none is = record {
  legal = subst IsLegal (sym none) tt;
  tables = is ∙ tables-none ∙ ap (λ (xs : List Entry). scratch (replay xs)) (sym none);
}
