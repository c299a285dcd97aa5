-- What is known of the messages that are present, by place, is what the lists say.
use Rattle.std.proofs.Common.{◌≡◌, ℕ, List, [], ◌∷◌, ◌++◌, refl, sym, ap, ◌∙◌, subst}
use Rattle.std.specs.Prelude.{T, map}
use Rattle.std.specs.List.{flat_map, enumerate_from}
use Rattle.std.proofs.lemmas.List.{map-append}
use Rattle.std.specs.FinMap.{entries, entries_sorted, from_entries, is_sorted, keys, values}
use Rattle.smq_kit.specs.declared.place.Place.{Place}
use Rattle.smq_kit.specs.Orders.{place_cmp}
use Rattle.smq_tally.specs.declared.fact.Fact.{Fact}
use Rattle.smq_present.specs.declared.present.session.Session.{Session}
use Rattle.smq_present.specs.present.Kept.{kept_pdus}
use Rattle.smq_present.specs.present.Present.{PresentValue}
use Rattle.smq_present.specs.pairing.Traffic.{Message, ReceivedReceipt, traffic_of, traffic_among}
use Rattle.smq_present.specs.pairing.Traffic as traffic
use Rattle.smq_present.specs.join.Facts.{facts_of}
use Rattle.smq_present.specs.join.Keyed.{grouping_of}
use Rattle.smq_present.specs.join.Listings as listings
use Rattle.smq_present.specs.join.Listings.{receipt_notes}
use Rattle.smq_present.specs.whole.Scratch.{scratch}
use Rattle.smq_tally.specs.declared.list.Listed.{Listed}
use Rattle.smq_tally.specs.Lists.{listed_set}
use Rattle.smq_tally.specs.Tables.{tables_of}
use Rattle.smq_present.specs.within.Lists.{source_of, session_submits, session_receipts, submits_of, receipts_of, notes_of, facts_listed, placed_fact, receipt_notes_listed, tables_listed}
use Rattle.smq_present.proofs.lemmas.join.AgreeLists.{message_entry, receipt_entry, Keyed, KeyedReceipts, keyed-append, keyed-among, receipts-append, receipts-keyed, messages-map, receipts-map}
use Rattle.smq_present.proofs.lemmas.join.AgreeFacts.{facts-agree}
use Rattle.smq_present.proofs.lemmas.join.AgreeListings.{receipts-agree}
use Rattle.smq_present.proofs.lemmas.join.MoveLemmas.{fact-place}
use Rattle.smq_present.proofs.lemmas.whole.Tallied.{made-of-entries, notes-with, values-placed}
use Rattle.smq_present.proofs.lemmas.pairing.PlacesRise.{messages-sorted, receipts-sorted}

module _ (p : PresentValue) where
  messages-of : (es : List (ℕ × Session)) → flat_map traffic.session_messages es ≡ map message_entry (flat_map (session_submits p.settings) es)
  messages-of [] = refl
  messages-of (e ∷ es) =
      (λ i. messages-map (source_of p.settings e) (kept_pdus e.1.client) (kept_pdus e.1.centre) [] (kept_pdus e.1.client) 0 refl
      refl i ++ messages-of es i)
      ∙ sym (map-append message_entry (session_submits p.settings e) (flat_map (session_submits p.settings) es))

  receipts-are : (es : List (ℕ × Session)) → flat_map traffic.session_receipts es ≡ map receipt_entry (flat_map (session_receipts p.settings) es)
  receipts-are [] = refl
  receipts-are (e ∷ es) =
      (λ i. receipts-map (source_of p.settings e) (kept_pdus e.1.centre) i ++ receipts-are es i)
      ∙ sym (map-append receipt_entry (session_receipts p.settings e) (flat_map (session_receipts p.settings) es))

  keyed-of : (es : List (ℕ × Session)) → Keyed p.settings (flat_map (session_submits p.settings) es)
  keyed-of [] = tt
  keyed-of (e ∷ es) =
      keyed-append p.settings (session_submits p.settings e) (flat_map (session_submits p.settings) es)
      (keyed-among p.settings (source_of p.settings e) (kept_pdus e.1.client) (kept_pdus e.1.centre)
      (enumerate_from 0 (kept_pdus e.1.client)) refl) (keyed-of es)

  receipts-keyed-of : (es : List (ℕ × Session)) → KeyedReceipts p.settings (flat_map (session_receipts p.settings) es)
  receipts-keyed-of [] = tt
  receipts-keyed-of (e ∷ es) =
      receipts-append p.settings (session_receipts p.settings e) (flat_map (session_receipts p.settings) es)
      (receipts-keyed p.settings (source_of p.settings e) (kept_pdus e.1.centre) refl) (receipts-keyed-of es)

  messages-rise : T (is_sorted place_cmp (map message_entry (submits_of p)))
  messages-rise = subst (λ (es : List (Place × Message)). T (is_sorted place_cmp es)) (messages-of (entries p.sessions))
      (messages-sorted (entries p.sessions) (entries_sorted p.sessions))

  receipts-rise : T (is_sorted place_cmp (map receipt_entry (receipts_of p)))
  receipts-rise = subst (λ (es : List (Place × ReceivedReceipt)). T (is_sorted place_cmp es)) (receipts-are (entries p.sessions))
      (receipts-sorted (entries p.sessions) (entries_sorted p.sessions))

  traffic-is : traffic_of p.sessions ≡ traffic_among (map message_entry (submits_of p)) (map receipt_entry (receipts_of p)) (notes_of p)
  traffic-is = λ i. traffic_among (messages-of (entries p.sessions) i) (receipts-are (entries p.sessions) i) (notes_of p)

  -- the facts by place, in order, are those of the lists
  pub facts-are : values (facts_of p.settings (traffic_of p.sessions)) ≡ facts_listed p
  facts-are =
      ap (λ t. values (facts_of p.settings t)) traffic-is
      ∙ facts-agree p.settings (submits_of p) (receipts_of p) (notes_of p) (keyed-of (entries p.sessions))
      (receipts-keyed-of (entries p.sessions)) messages-rise receipts-rise

  -- the facts are made of those of the lists
  pub facts-made : from_entries (map placed_fact (facts_listed p)) ≡ facts_of p.settings (traffic_of p.sessions)
  facts-made =
      let facts = facts_of p.settings (traffic_of p.sessions) in
      ap (λ (fs : List Fact). from_entries (map placed_fact fs)) (sym facts-are)
      ∙ ap from_entries (values-placed facts (fact-place p.settings (traffic_of p.sessions))) ∙ made-of-entries facts

  -- the listed receipts by place, in order, are those of the lists
  pub receipts-listed : receipt_notes (grouping_of p.settings (traffic_of p.sessions)) ≡ receipt_notes_listed p
  receipts-listed =
      ap (λ t. receipt_notes (grouping_of p.settings t)) traffic-is
      ∙ receipts-agree p.settings (submits_of p) (receipts_of p) (notes_of p) (keyed-of (entries p.sessions))
      (receipts-keyed-of (entries p.sessions)) messages-rise receipts-rise

  -- what is noted is what the lists say
  pub notes-are : listings.notes_of p.settings (traffic_of p.sessions) ≡ listed_set (notes_of p ++ receipt_notes_listed p)
  notes-are =
      ap (λ (es : List Listed). listed_set (keys (listed_set (notes_of p)) ++ es)) receipts-listed ∙ notes-with (notes_of p) (receipt_notes_listed p)

  -- the tables are those of the lists
  pub tables-are : scratch p ≡ tables_listed p
  tables-are = λ i. tables_of (sym facts-made i) (notes-are i)
