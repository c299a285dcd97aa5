-- The book whose octets are written out: its PDUs, its messages and receipts as lists, its facts.
use Rattle.std.proofs.Common.{◌≡◌, ℕ, false, List, [], ◌∷◌, ◌++◌, Option, Some, None, refl, ap, ◌∙◌}
use Rattle.std.specs.Prelude.{◌+◌, codes, filter, map, nat_le, option_and_then, option_map, pos, ◌-ℤ◌, unwrap_or, ℤ}
use Rattle.std.specs.List.{flat_map}
use Rattle.std.specs.Option.{option_zip}
use Rattle.std.specs.Cmp.{nat_cmp_total}
use Rattle.std.specs.Ordering.{nat_cmp}
use Rattle.std.specs.FinMap.{entries, values, get-insert, get-empty, empty, nat_cmp-IsAntisymmetric}
use Rattle.smq_kit.specs.declared.message_id.Form.TheVariants.{Decimal}
use Rattle.smq_kit.specs.declared.names.RouteId.{RouteId}
use Rattle.smq_kit.proofs.MapLemmas.{entries-from_entries}
use Rattle.smq_route.specs.Versions.{serves, longest}
use Rattle.smq_route.specs.declared.version.Version.{Version}
use Rattle.smq_route.specs.declared.version.VersionKey.{VersionKey}
use Rattle.smq_route.proofs.VersionOrders.{versions_total, versions_exact}
use Rattle.smq_frame.specs.Framing.{stated_length, frames_of, frames_within, rest_of, rest_within}
use Rattle.smq_frame.specs.Stream.{stamped, values as octets_of}
use Rattle.smq_frame.specs.Tail.{TailValue, tail_of, tail_from}
use Rattle.smq_pdu.specs.Header.{word_at}
use Rattle.smq_pdu.specs.Numbers.{number_of, digits_of}
use Rattle.smq_pdu.specs.Sources.{source_in}
use Rattle.smq_pdu.specs.Pairing.{nth_index}
use Rattle.smq_pdu.specs.Pdu.{body_of, submit_of, deliver_of, id_of}
use Rattle.smq_pdu.specs.Readers.{mandatory_at, address_at, c_octet_at, octets_at, number_at, tlv_at, tlvs_within, tlvs_of}
use Rattle.smq_receipt.specs.Places.{least_below}
use Rattle.smq_receipt.specs.Texts.{same_letters, stands_at, labels_at, header_of, value_at, value_of}
use Rattle.smq_receipt.specs.States.{state_of_number, state_of_word}
use Rattle.smq_receipt.specs.Errors.{network_code_in, text_code_in}
use Rattle.smq_receipt.specs.Dates.{two_digits_at, is_date, day_number_of, second_of_day_of, moment_of, centre_delay_of}
use Rattle.smq_receipt.specs.Readings as readings
use Rattle.smq_receipt.specs.Readings.{text_of, usable_id, receipted_id, state_in, state_of, error_of, receipt_of, reading_of}
use Rattle.smq_kit.specs.declared.error_code.ErrorCode.{ErrorCode}
use Rattle.smq_kit.specs.declared.error_code.ErrorCode.TheVariants as e
use Rattle.smq_receipt.proofs.KnownReceipts.{limits}
use Rattle.smq_receipt.specs.declared.message_state.MessageState.{MessageState}
use Rattle.smq_receipt.specs.declared.message_state.MessageState.TheVariants as state
use Rattle.smq_receipt.specs.declared.reading.Reading.TheVariants as v
use Rattle.smq_tally.specs.declared.band.Band.TheVariants as b
use Rattle.smq_tally.specs.declared.fact.Fact.{Fact}
use Rattle.smq_tally.specs.declared.list.List as l
use Rattle.smq_tally.specs.declared.list.List.TheVariants as list
use Rattle.smq_tally.specs.declared.list.Listed.{Listed}
use Rattle.smq_tally.specs.Lists.{listed, listings_of_fact, in_list}
use Rattle.smq_tally.specs.Tables.{listed_in}
use Rattle.smq_tally.proofs.Written.{in_order, places_in_order, listed-at}
use Rattle.smq_kit.specs.Orders.{place_cmp}
use Rattle.smq_kit.specs.declared.place.Dir.TheVariants.{FromClient, FromCentre}
use Rattle.smq_tally.specs.declared.outcome.Outcome.TheVariants as o
use Rattle.smq_tally.specs.declared.value.SubmitError.TheVariants as s
use Rattle.smq_present.specs.declared.pairing.pairs.SessionForms.{SessionForms}
use Rattle.smq_present.specs.declared.present.forms.Forms.{Forms}
use Rattle.smq_present.specs.present.Content.{Content}
use Rattle.smq_present.specs.present.Content as c
use Rattle.smq_present.specs.declared.present.kept.StoredPdu.{StoredPdu}
use Rattle.smq_present.specs.known.Pairing.{place_at, said}
use Rattle.smq_present.specs.known.Join.{settings_with}
use Rattle.smq_present.specs.known.Whole.{known_session, other_session, far_session, known_book, nested_versions, known_fact}
use Rattle.smq_present.specs.present.Kept.{kept_pdus}
use Rattle.smq_present.specs.present.Settings.{opening_forms, opening_window, forms_of}
use Rattle.smq_present.specs.pairing.Traffic.{traffic_of, Origin, notes_among, broken_notes, session_notes}
use Rattle.smq_present.specs.join.Facts.{fact_in_circumstances, facts_of}
use Rattle.smq_present.specs.within.Lists.{session_submits, session_receipts, submits_of, receipts_of, notes_of, facts_listed, receipt_notes_listed, placed_fact}
use Rattle.smq_present.specs.within.Messages.{SubmittedMessage, submits_among}
use Rattle.smq_present.specs.within.Outcomes.{message_from, circumstances_of}
use Rattle.smq_present.specs.within.Receipts.{KeyedReceipt, receipts_among}
use Rattle.smq_present.specs.within.Listings.{note_of}
use Rattle.smq_present.specs.whole.Scratch.{scratch}
use Rattle.smq_present.proofs.lemmas.whole.AgreePresent.{facts-are, tables-are}
use Rattle.smq_present.proofs.lemmas.join.KnownFacts.{forms-set}

-- ---- the PDUs of each direction

abbrev pdu : ℕ → ℕ → ℕ → ℕ → Content → StoredPdu
pdu offset moment command seq content =
    record { offset = offset; moment = moment; command = command; status = 0; seq = seq; content = content }

abbrev submit : ℕ → ℕ → ℕ → Option (List ℕ) → StoredPdu
submit offset moment seq number = pdu offset moment 4 seq (c.Submit (said 1 number))

abbrev response : ℕ → ℕ → ℕ → List ℕ → StoredPdu
response offset moment seq id = pdu offset moment 0x8000_0004 seq (c.SubmitAnswer (Some id))

abbrev receipt : ℕ → ℕ → ℕ → List ℕ → MessageState → ErrorCode → Option ℤ → StoredPdu
receipt offset moment seq id state error delay =
    pdu offset moment 5 seq (c.Deliver (v.Receipt (record { id = id; state = state; interim = false; error = error; centre_delay = delay })))

abbrev known_client : List StoredPdu
known_client = submit 0 1000 1 (Some (codes "447700900123")) ∷ submit 45 1500 2 (Some (codes "447700900123")) ∷ []

abbrev centre_dated : Option ℤ → Option ℤ → List StoredPdu
centre_dated submitted done =
    response 0 1200 1 (codes "07") ∷ response 19 1700 2 (codes "08")
    ∷ receipt 38 5000 90 (codes "7") state.Delivered e.Unstated (option_map (λ p. p.1 -ℤ p.0) (option_zip submitted done)) ∷ []

abbrev known_centre : List StoredPdu
known_centre = centre_dated (Some (pos 1740746040000)) (Some (pos 4102444798000))

abbrev other_client : List StoredPdu
other_client = receipt 0 100 1 (codes "08") state.Delivered e.Unstated None ∷ []

abbrev other_centre : List StoredPdu
other_centre = receipt 0 5000 91 (codes "007") state.Undeliverable (e.Text (codes "012")) None
    ∷ receipt 60 6500 92 (codes "008") state.Undeliverable (e.Text (codes "027")) None ∷ []

abbrev far_client : List StoredPdu
far_client = submit 0 2000 1 None ∷ submit 33 2000 2 None ∷ submit 66 2000 3 None ∷ []

abbrev far_centre : List StoredPdu
far_centre = response 0 2100 1 (codes "7") ∷ response 18 2100 2 (codes "7") ∷ response 36 2100 3 (codes "9")
    ∷ receipt 54 3000 90 (codes "7") state.Delivered e.Unstated None ∷ []

known-client : kept_pdus known_session.client ≡ known_client
unfolding stated_length frames_of frames_within stamped word_at body_of submit_of number_of digits_of source_in deliver_of id_of mandatory_at
    address_at c_octet_at octets_at number_at tlv_at tlvs_within tlvs_of least_below same_letters stands_at labels_at header_of
    value_at value_of state_of_number state_of_word network_code_in text_code_in two_digits_at is_date day_number_of
    second_of_day_of moment_of centre_delay_of text_of usable_id receipted_id state_in readings.id_of state_of error_of receipt_of
    reading_of
known-client = refl

-- the receipt's dates are known moments
known-centre : kept_pdus known_session.centre ≡ known_centre
unfolding stated_length frames_of frames_within stamped word_at body_of submit_of number_of digits_of source_in deliver_of id_of mandatory_at
    address_at c_octet_at octets_at number_at tlv_at tlvs_within tlvs_of least_below same_letters stands_at labels_at header_of
    value_at value_of state_of_number state_of_word network_code_in text_code_in centre_delay_of text_of usable_id receipted_id
    state_in readings.id_of state_of error_of receipt_of reading_of
known-centre = λ i. centre_dated (limits.minutes i) (limits.seconds i)

other-client : kept_pdus other_session.client ≡ other_client
unfolding stated_length frames_of frames_within stamped word_at body_of submit_of number_of digits_of source_in deliver_of id_of mandatory_at
    address_at c_octet_at octets_at number_at tlv_at tlvs_within tlvs_of least_below same_letters stands_at labels_at header_of
    value_at value_of state_of_number state_of_word network_code_in text_code_in two_digits_at is_date day_number_of
    second_of_day_of moment_of centre_delay_of text_of usable_id receipted_id state_in readings.id_of state_of error_of receipt_of
    reading_of
other-client = refl

other-centre : kept_pdus other_session.centre ≡ other_centre
unfolding stated_length frames_of frames_within stamped word_at body_of submit_of number_of digits_of source_in deliver_of id_of mandatory_at
    address_at c_octet_at octets_at number_at tlv_at tlvs_within tlvs_of least_below same_letters stands_at labels_at header_of
    value_at value_of state_of_number state_of_word network_code_in text_code_in two_digits_at is_date day_number_of
    second_of_day_of moment_of centre_delay_of text_of usable_id receipted_id state_in readings.id_of state_of error_of receipt_of
    reading_of
other-centre = refl

far-client : kept_pdus far_session.client ≡ far_client
unfolding stated_length frames_of frames_within stamped word_at body_of submit_of number_of digits_of source_in deliver_of id_of mandatory_at
    address_at c_octet_at octets_at number_at tlv_at tlvs_within tlvs_of least_below same_letters stands_at labels_at header_of
    value_at value_of state_of_number state_of_word network_code_in text_code_in two_digits_at is_date day_number_of
    second_of_day_of moment_of centre_delay_of text_of usable_id receipted_id state_in readings.id_of state_of error_of receipt_of
    reading_of
far-client = refl

far-centre : kept_pdus far_session.centre ≡ far_centre
unfolding stated_length frames_of frames_within stamped word_at body_of submit_of number_of digits_of source_in deliver_of id_of mandatory_at
    address_at c_octet_at octets_at number_at tlv_at tlvs_within tlvs_of least_below same_letters stands_at labels_at header_of
    value_at value_of state_of_number state_of_word network_code_in text_code_in two_digits_at is_date day_number_of
    second_of_day_of moment_of centre_delay_of text_of usable_id receipted_id state_in readings.id_of state_of error_of receipt_of
    reading_of
far-centre = refl

-- ---- messages and receipts

abbrev source : ℕ → ℕ → Forms → SessionForms
source session link forms = record { session = record { 0 = session }; link = record { 0 = link }; forms = forms }

decimal : Forms
decimal = record { response = Decimal; receipt = Decimal }

far-forms : forms_of (settings_with Decimal Decimal) (record { 0 = 65537 }) ≡ opening_forms
unfolding decimal
far-forms = ap (λ f. unwrap_or f opening_forms) (get-insert nat_cmp_total empty 1 decimal 65537 ∙ get-empty nat_cmp 65537)

sessions-are : entries known_book.sessions ≡ (10, known_session) ∷ (11, other_session) ∷ (65546, far_session) ∷ []
sessions-are = entries-from_entries nat_cmp_total nat_cmp-IsAntisymmetric ((10, known_session) ∷ (11, other_session) ∷ (65546, far_session) ∷ []) tt

abbrev submits : Forms → Forms → List SubmittedMessage
submits near far =
    submits_among (source 10 1 near) known_client known_centre ++ (submits_among (source 11 1 near) other_client other_centre
    ++ (submits_among (source 65546 65537 far) far_client far_centre ++ []))

abbrev receipts : Forms → Forms → List KeyedReceipt
receipts near far =
    receipts_among (source 10 1 near) known_centre
    ++ (receipts_among (source 11 1 near) other_centre ++ (receipts_among (source 65546 65537 far) far_centre ++ []))

submits-are : submits_of known_book ≡ submits decimal opening_forms
unfolding decimal
submits-are =
    ap (flat_map (session_submits known_book.settings)) sessions-are
    ∙ (λ i. submits_among (source 10 1 (forms-set Decimal Decimal i)) (known-client i) (known-centre i)
    ++ (submits_among (source 11 1 (forms-set Decimal Decimal i)) (other-client i) (other-centre i)
    ++ (submits_among (source 65546 65537 (far-forms i)) (far-client i) (far-centre i) ++ [])))

receipts-are : receipts_of known_book ≡ receipts decimal opening_forms
unfolding decimal
receipts-are =
    ap (flat_map (session_receipts known_book.settings)) sessions-are
    ∙ (λ i. receipts_among (source 10 1 (forms-set Decimal Decimal i)) (known-centre i)
    ++ (receipts_among (source 11 1 (forms-set Decimal Decimal i)) (other-centre i)
    ++ (receipts_among (source 65546 65537 (far-forms i)) (far-centre i) ++ [])))

abbrev facts : List Fact
facts =
    record (known_fact 10 1 0 o.Delivered None) {
      route = Some (record { 0 = 3 }, codes "23410");
      link_delay =
          Some b.Under5Seconds;
      centre_delay = Some b.Over;
    }
    ∷ record (known_fact 10 1 45 o.Failed (Some (s.Failed (e.Text (codes "027"))))) { link_delay = Some b.Under30Seconds }
    ∷ known_fact 65546 65537 0 o.Ambiguous None
    ∷ known_fact 65546 65537 33 o.Ambiguous None
    ∷ known_fact 65546 65537 66 o.Lapsed None ∷ []

-- the route of a message, where these are the versions
abbrev route_from : List (VersionKey × Version) → SubmittedMessage → Option (RouteId × List ℕ)
route_from versions s = option_and_then (λ number. option_map (λ e. (e.1.route, e.1.network))
    (longest (filter (serves number s.moment) versions))) s.number

-- the facts of messages, where these are the versions, and these the windows that were set
abbrev facts_from : List (VersionKey × Version) → (ℕ → Option ℕ) → List SubmittedMessage → List KeyedReceipt → List Fact
facts_from versions windows submits receipts = map
    (λ m. fact_in_circumstances m.place (message_from m) (record (circumstances_of known_book.settings submits receipts m) {
      route =
          route_from versions m;
      lapsed =
          nat_le (m.moment + unwrap_or (windows m.link.0) opening_window) known_book.settings.clock;
    })) submits

versions-are : entries known_book.settings.versions ≡ nested_versions
versions-are = entries-from_entries versions_total versions_exact nested_versions tt

facts-computed : facts_from nested_versions (λ number. None) (submits decimal opening_forms) (receipts decimal opening_forms) ≡ facts
unfolding nth_index decimal
facts-computed = refl

facts-listed-of-book : facts_listed known_book ≡ facts
facts-listed-of-book = (λ i. facts_from (versions-are i) (λ number. get-empty nat_cmp number i) (submits-are i) (receipts-are i)) ∙ facts-computed

pub facts-of-book : values (facts_of known_book.settings (traffic_of known_book.sessions)) ≡ facts
facts-of-book = facts-are known_book ∙ facts-listed-of-book

-- ---- lists

abbrev tail_at : ℕ → Option ℕ → TailValue
tail_at offset broken = record { offset = offset; rest = []; broken = broken }

known-client-tail : tail_of (octets_of known_session.client) ≡ tail_at 90 None
unfolding stated_length tail_from rest_of rest_within
known-client-tail = refl

known-centre-tail : tail_of (octets_of known_session.centre) ≡ tail_at 134 None
unfolding stated_length tail_from rest_of rest_within
known-centre-tail = refl

other-client-tail : tail_of (octets_of other_session.client) ≡ tail_at 51 None
unfolding stated_length tail_from rest_of rest_within
other-client-tail = refl

other-centre-tail : tail_of (octets_of other_session.centre) ≡ tail_at 120 None
unfolding stated_length tail_from rest_of rest_within
other-centre-tail = refl

far-client-tail : tail_of (octets_of far_session.client) ≡ tail_at 136 (Some 99)
unfolding stated_length tail_from rest_of rest_within
far-client-tail = refl

far-centre-tail : tail_of (octets_of far_session.centre) ≡ tail_at 104 None
unfolding stated_length tail_from rest_of rest_within
far-centre-tail = refl

abbrev origin : ℕ → ℕ → Origin
origin session link = record { session = record { 0 = session }; link = record { 0 = link } }

-- the notes of a session whose PDUs and tails are these
abbrev noted : Origin → List StoredPdu → List StoredPdu → TailValue → TailValue → List Listed
noted o client centre client_tail centre_tail = notes_among o client centre ++ broken_notes o client_tail centre_tail

abbrev notes : List Listed
notes =
    noted (origin 10 1) known_client known_centre (tail_at 90 None) (tail_at 134 None)
    ++ (noted (origin 11 1) other_client other_centre (tail_at 51 None) (tail_at 120 None)
    ++ (noted (origin 65546 65537) far_client far_centre (tail_at 136 (Some 99)) (tail_at 104 None) ++ []))

notes-are : notes_of known_book ≡ notes
notes-are =
    ap (flat_map session_notes) sessions-are
    ∙ (λ i. noted (origin 10 1) (known-client i) (known-centre i) (known-client-tail i) (known-centre-tail i)
    ++ (noted (origin 11 1) (other-client i) (other-centre i) (other-client-tail i) (other-centre-tail i)
    ++ (noted (origin 65546 65537) (far-client i) (far-centre i) (far-client-tail i) (far-centre-tail i) ++ [])))

-- the receipts that are noted, where these are the messages and receipts
abbrev receipt_notes_from : List SubmittedMessage → List KeyedReceipt → List Listed
receipt_notes_from submits receipts = flat_map (note_of submits receipts) receipts

-- what is listed of these notes and facts, in order
abbrev listed_from : List Listed → List Listed → List Fact → List Listed
listed_from notes receipts facts =
    places_in_order (places_in_order (notes ++ receipts) ++ flat_map listings_of_fact (map (λ e. e.1) (in_order place_cmp (map placed_fact facts))))

abbrev known_listed : List Listed
known_listed =
    listed list.Waiting (place_at 10 FromCentre 38) ∷ listed list.Waiting (place_at 11 FromClient 0)
    ∷ listed list.Waiting (place_at 11 FromCentre 0) ∷ listed list.Waiting (place_at 11 FromCentre 60)
    ∷ listed list.Waiting (place_at 65546 FromCentre 54) ∷ listed list.AmbiguousReceipts (place_at 65546 FromCentre 54)
    ∷ listed list.ExtraReceipts (place_at 11 FromCentre 0) ∷ listed list.Broken (place_at 65546 FromClient 99)
    ∷ listed list.Lapsed (place_at 65546 FromClient 66) ∷ []

listed-computed : listed_from notes (receipt_notes_from (submits decimal opening_forms) (receipts decimal opening_forms)) facts ≡ known_listed
unfolding nth_index decimal
listed-computed = refl

pub lists-of-book : (which : l.List) → listed_in (scratch known_book) which ≡ map (λ e. e.place) (filter (in_list which) known_listed)
lists-of-book which =
    ap (λ t. listed_in t which) (tables-are known_book)
    ∙ listed-at (map placed_fact (facts_listed known_book)) (notes_of known_book ++ receipt_notes_listed known_book) which
    ∙ (λ i. map (λ e. e.place) (filter (in_list which)
    (listed_from (notes-are i) (receipt_notes_from (submits-are i) (receipts-are i)) (facts-listed-of-book i))))
    ∙ ap (λ es. map (λ e. e.place) (filter (in_list which) es)) listed-computed
