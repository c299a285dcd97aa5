-- The facts of known traffic that is dealt are those of lists of PDUs, which the prover computes.
use Rattle.std.proofs.Common.{◌≡◌, Bool, List, ap, ◌∙◌}
use Rattle.std.specs.Prelude.{T, filter, count_by}
use Rattle.std.specs.FinMap.{from_entries, is_sorted, values}
use Rattle.smq_kit.specs.declared.message_id.Form.TheVariants.{Verbatim}
use Rattle.smq_kit.specs.declared.place.Place.{Place}
use Rattle.smq_kit.specs.Orders.{place_cmp}
use Rattle.smq_tally.specs.declared.fact.CountKey.{CountKey}
use Rattle.smq_tally.specs.declared.fact.Fact.{Fact}
use Rattle.smq_tally.specs.Rows.{stands_in}
use Rattle.smq_tally.specs.within.Counting.{count_of}
use Rattle.smq_tally.proofs.Tallies.{count-tables}
use Rattle.smq_present.specs.declared.present.kept.StoredPdu.{StoredPdu}
use Rattle.smq_present.specs.known.Join.{known_facts, known_traffic, settings_with}
use Rattle.smq_present.specs.known.Pairing.{known_origin}
use Rattle.smq_present.specs.pairing.Traffic.{TrafficValue, messages_among, receipts_among}
use Rattle.smq_present.specs.join.Facts.{facts_of}
use Rattle.smq_present.specs.join.Listings.{notes_of}
use Rattle.smq_present.specs.whole.Dealt.{dealt, tables_from}
use Rattle.smq_present.proofs.lemmas.join.KnownFacts.{facts_known, listed}
use Rattle.smq_present.proofs.lemmas.whole.DealtByKey.{retained}

-- where the places rise, as they do in any stream
pub facts-of-part : (here : Place → Bool) (client centre part_client part_centre : List StoredPdu)
    → filter (λ e. here e.0) (messages_among known_origin client centre) ≡ messages_among known_origin part_client part_centre
    → filter (λ e. here e.0) (receipts_among known_origin centre) ≡ receipts_among known_origin part_centre
    → T (is_sorted place_cmp (messages_among known_origin part_client part_centre))
    → T (is_sorted place_cmp (receipts_among known_origin part_centre))
    → values (facts_of (settings_with Verbatim Verbatim) (dealt here (known_traffic client centre)))
    ≡ listed 0 Verbatim Verbatim part_client part_centre
unfolding known_facts
facts-of-part here client centre part_client part_centre messages receipts rise receipts_rise =
    let of_messages = retained here (messages_among known_origin client centre) ∙ ap (from_entries {R = place_cmp}) messages in
    let of_receipts = retained here (receipts_among known_origin centre) ∙ ap (from_entries {R = place_cmp}) receipts in
    (λ i. values (facts_of (settings_with Verbatim Verbatim) (record {
      messages = of_messages i;
      receipts = of_receipts i;
      notes = (dealt here (known_traffic client centre)).notes;
    })))
    ∙ facts_known part_client part_centre rise receipts_rise

-- a count is the number of the facts that stand there
pub counted-of : (t : TrafficValue) (key : CountKey) (facts : List Fact) → values (facts_of (settings_with Verbatim Verbatim) t) ≡ facts
    → count_of (tables_from (settings_with Verbatim Verbatim) t) key ≡ count_by (stands_in key) facts
counted-of t key facts is =
    count-tables (facts_of (settings_with Verbatim Verbatim) t) (notes_of (settings_with Verbatim Verbatim) t) key
    ∙ ap (count_by (stands_in key)) is

pub facts-of-whole : (client centre : List StoredPdu)
    → T (is_sorted place_cmp (messages_among known_origin client centre)) → T (is_sorted place_cmp (receipts_among known_origin centre))
    → values (facts_of (settings_with Verbatim Verbatim) (known_traffic client centre)) ≡ listed 0 Verbatim Verbatim client centre
unfolding known_facts
facts-of-whole client centre rise receipts_rise = facts_known client centre rise receipts_rise
