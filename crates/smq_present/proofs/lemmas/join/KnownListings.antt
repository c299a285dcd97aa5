-- The lists of written-out receipts by place are those of lists, which the prover computes.
use Rattle.std.proofs.Common.{◌≡◌, List, [], ◌++◌, refl, sym, ◌∙◌, subst}
use Rattle.std.specs.Prelude.{T, map}
use Rattle.std.specs.List.{enumerate_from, flat_map}
use Rattle.std.specs.FinMap.{is_sorted}
use Rattle.std.proofs.lemmas.List.{map-append}
use Rattle.smq_kit.specs.declared.message_id.Form.{Form}
use Rattle.smq_kit.specs.declared.place.Place.{Place}
use Rattle.smq_kit.specs.Orders.{place_cmp}
use Rattle.smq_present.specs.declared.pairing.pairs.SessionForms.{SessionForms}
use Rattle.smq_present.specs.declared.present.kept.StoredPdu.{StoredPdu}
use Rattle.smq_present.specs.known.Pairing.{known_origin}
use Rattle.smq_present.specs.known.Join.{later_origin, settings_with, listings_under}
use Rattle.smq_present.specs.pairing.Traffic.{Message, ReceivedReceipt, messages_among, receipts_among, traffic_among}
use Rattle.smq_present.specs.join.Keyed.{grouping_of}
use Rattle.smq_present.specs.join.Listings.{receipt_notes}
use Rattle.smq_present.specs.within.Listings.{note_of}
use Rattle.smq_present.specs.within.Messages.{SubmittedMessage, submits_among}
use Rattle.smq_present.specs.within.Receipts as receipts
use Rattle.smq_present.specs.within.Receipts.{KeyedReceipt}
use Rattle.smq_present.proofs.lemmas.join.AgreeLists.{message_entry, receipt_entry, keyed-among, receipts-append, receipts-keyed, messages-map, receipts-map}
use Rattle.smq_present.proofs.lemmas.join.AgreeListings.{receipts-agree}
use Rattle.smq_present.proofs.lemmas.join.KnownFacts.{forms-set, source_with}

-- session 11 of link 1, with these forms
abbrev pub later_source : Form → Form → SessionForms
later_source response receipt =
    record { session = record { 0 = 11 }; link = record { 0 = 1 }; forms = record { response = response; receipt = receipt } }

-- the receipts of both sessions
abbrev pub receipts_of_two : Form → Form → List StoredPdu → List StoredPdu → List KeyedReceipt
receipts_of_two response receipt centre later =
    receipts.receipts_among (source_with response receipt) centre ++ receipts.receipts_among (later_source response receipt) later

-- where the places rise, as they do in any streams
pub listings_known : (response receipt : Form) (client centre later : List StoredPdu)
    → T (is_sorted place_cmp (messages_among known_origin client centre))
    → T (is_sorted place_cmp (receipts_among known_origin centre ++ receipts_among later_origin later))
    → listings_under response receipt client centre later
    ≡ flat_map (note_of (submits_among (source_with response receipt) client centre)
    (receipts_of_two response receipt centre later)) (receipts_of_two response receipt centre later)
unfolding listings_under
listings_known response receipt client centre later rise receipts_rise =
    let s = settings_with response receipt in
    let source : SessionForms = source_with response receipt in
    let other : SessionForms = later_source response receipt in
    let submits : List SubmittedMessage = submits_among source client centre in
    let rs : List KeyedReceipt = receipts_of_two response receipt centre later in
    let messages : messages_among known_origin client centre ≡ map message_entry submits = messages-map source client centre [] client 0 refl refl in
    let received : receipts_among known_origin centre ++ receipts_among later_origin later ≡ map receipt_entry rs =
    (λ i. receipts-map source centre i ++ receipts-map other later i)
    ∙ sym (map-append receipt_entry (receipts.receipts_among source centre) (receipts.receipts_among other later)) in
    (λ i. receipt_notes (grouping_of s (traffic_among (messages i) (received i) [])))
    ∙ receipts-agree s submits rs [] (keyed-among s source client centre (enumerate_from 0 client) (forms-set response receipt))
    (receipts-append s (receipts.receipts_among source centre) (receipts.receipts_among other later)
    (receipts-keyed s source centre (forms-set response receipt)) (receipts-keyed s other later (forms-set response receipt)))
    (subst (λ (es : List (Place × Message)). T (is_sorted place_cmp es)) messages rise)
    (subst (λ (es : List (Place × ReceivedReceipt)). T (is_sorted place_cmp es)) received receipts_rise)
