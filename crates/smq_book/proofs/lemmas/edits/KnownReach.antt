-- How much edits of a book of one message reach: its weights from lists, which the prover computes.
use Rattle.std.proofs.Common.{◌≡◌, ℕ, ◌+◌, Bool, true, false, cond, List, [], ◌∷◌, ◌++◌, Option, Some, None, refl, sym, ap, ◌∙◌, arith}
use Rattle.std.specs.Prelude.{T, ◌==◌, ◌&&◌, codes, nat_le, map, filter, length, count_by, option_map, option_and_then, unwrap_or}
use Rattle.std.specs.List.{flat_map, reduce, sum_by}
use Rattle.std.specs.Option.{option_or}
use Rattle.std.proofs.lemmas.List.Sums.{sum_by-cons}
use Rattle.std.specs.Cmp.{nat_cmp_total}
use Rattle.std.specs.Ordering.{eq_by_cmp, nat_cmp}
use Rattle.std.specs.FinMap.{FinMap, empty, entries, find, from_entries, get, insert, is_sorted, len, len-entries, get-empty, get-entries, get-insert, same_map, nat_cmp-IsAntisymmetric}
use Rattle.smq_kit.specs.declared.link_key.LinkKey.{LinkKey}
use Rattle.smq_kit.specs.declared.message_id.Form.TheVariants.{Decimal}
use Rattle.smq_kit.specs.declared.names.LinkId.{LinkId}
use Rattle.smq_kit.specs.declared.place.Dir.TheVariants.{FromClient, FromCentre}
use Rattle.smq_kit.specs.declared.place.Place.{Place}
use Rattle.smq_kit.specs.LinkKeys.{link_key, same_key}
use Rattle.smq_kit.specs.Maps.{kept_of}
use Rattle.smq_kit.specs.Orders.{place_cmp}
use Rattle.smq_kit.specs.Replies.{first_of}
use Rattle.smq_kit.proofs.MapLemmas as maps
use Rattle.smq_kit.proofs.PlaceOrders.{places_total, places_exact}
use Rattle.smq_frame.specs.Framing.{stated_length, frames_of, frames_within, rest_of, rest_within}
use Rattle.smq_frame.specs.Stream.{stamped, frames_after}
use Rattle.smq_frame.specs.Stream as stream
use Rattle.smq_frame.specs.Tail.{tail_from}
use Rattle.smq_pair.specs.declared.pairing.Pair.{Pair}
use Rattle.smq_pair.specs.Pairing.{pair_at}
use Rattle.smq_tally.specs.declared.outcome.Outcome.{Outcome}
use Rattle.smq_pdu.specs.Header.{word_at}
use Rattle.smq_pdu.specs.Numbers.{number_of, digits_of}
use Rattle.smq_pdu.specs.Sources.{source_in}
use Rattle.smq_pdu.specs.Pairing.{nth_index}
use Rattle.smq_pdu.specs.Pdu.{body_of, submit_of, deliver_of, id_of}
use Rattle.smq_pdu.specs.Readers.{mandatory_at, address_at, c_octet_at, octets_at, number_at, tlv_at, tlvs_within, tlvs_of}
use Rattle.smq_present.specs.declared.present.edit.Edit.TheVariants.{Advance, SetForm, SetWindow, Withdraw}
use Rattle.smq_present.specs.declared.present.forms.Forms.{Forms}
use Rattle.smq_receipt.specs.Dates.{centre_delay_of}
use Rattle.smq_receipt.specs.Errors.{network_code_in, text_code_in}
use Rattle.smq_receipt.specs.Places.{least_below}
use Rattle.smq_receipt.specs.Readings.{error_of, id_of as receipt_id_of, reading_of, receipt_of, receipted_id, state_in, state_of, text_of, usable_id}
use Rattle.smq_receipt.specs.States.{state_of_number, state_of_word}
use Rattle.smq_receipt.specs.Texts.{header_of, labels_at, same_letters, stands_at, value_at, value_of}
use Rattle.smq_present.specs.present.Content as c
use Rattle.smq_present.specs.declared.present.kept.StoredPdu.{StoredPdu}
use Rattle.smq_present.specs.declared.present.session.Session.{Session}
use Rattle.smq_present.specs.known.Pairing.{delivered, place_at, known_origin, said, submit_octets, response_octets}
use Rattle.smq_present.specs.known.Present.{waiting}
use Rattle.smq_book.specs.known.Reach.{submitted_session, accepted_session, receipts_session, submitted_book, accepted_book, decided_book, accepted_at, submitting, accepting}
use Rattle.smq_present.specs.present.Batch.{batch_of}
use Rattle.smq_present.specs.present.Kept.{kept_pdus}
use Rattle.smq_present.specs.present.Present.{PresentValue}
use Rattle.smq_present.specs.present.Present as present
use Rattle.smq_present.specs.present.Replies.{append_refusals}
use Rattle.smq_present.specs.present.Settings.{opening_forms, opening_settings, opening_window, with_clock}
use Rattle.smq_present.specs.present.Steps.{session_after, step}
use Rattle.smq_present.specs.present.Stream.{last_moment}
use Rattle.smq_present.specs.pairing.Traffic.{Message, Origin, ReceivedReceipt, messages_among, receipts_among, pairing_among, place_of, session_pairing, traffic_of, session_messages, session_receipts}
use Rattle.smq_present.specs.join.Circumstances.{decider_in, route_in}
use Rattle.smq_present.specs.join.Keyed.{accepted_id, can_decide}
use Rattle.smq_group.specs.Matching.{Candidate, GroupedReceipt, Single, Shared, Standing, earlier}
use Rattle.smq_present.specs.join.Outcomes.{outcome_by}
use Rattle.smq_book.specs.edits.Reached.{is_due, is_open, is_under, lapsing, due_by, messages_due_on, messages_under, passing}
use Rattle.smq_book.specs.edits.Reach.{groups, link_places, pair_in, weight, weights, batch_places, places_in, session_places, reach}
use Rattle.smq_book.proofs.lemmas.edits.Advances.{due-lapse}
use Rattle.smq_book.proofs.lemmas.edits.WindowEdits.{same-due}
use Rattle.smq_present.proofs.lemmas.present.Changes.{step-made}
use Rattle.smq_present.proofs.lemmas.present.Growth.{kept_pdus-nil}

-- ---- the PDUs

abbrev known_client : List StoredPdu
known_client = record { offset = 0; moment = 1000; command = 4; status = 0; seq = 1; content = c.Submit (said 1 (Some (codes "447700900123"))) } ∷ []

abbrev known_centre : List StoredPdu
known_centre = record { offset = 0; moment = 1200; command = 0x8000_0004; status = 0; seq = 1; content = c.SubmitAnswer (Some (codes "1")) } ∷ []

pub client-is : kept_pdus submitted_session.client ≡ known_client
unfolding stated_length frames_of frames_within stamped word_at body_of submit_of number_of digits_of source_in deliver_of id_of mandatory_at address_at c_octet_at octets_at number_at tlv_at tlvs_within tlvs_of
client-is = refl

centre-is : kept_pdus accepted_session.centre ≡ known_centre
unfolding stated_length frames_of frames_within stamped word_at body_of submit_of number_of digits_of source_in deliver_of id_of mandatory_at address_at c_octet_at octets_at number_at tlv_at tlvs_within tlvs_of
centre-is = refl

submitting-places : batch_places (batch_of (record { 0 = 1 }) (record { 0 = 10 }) FromClient (waiting 0 []) 1000 (submit_octets 1 (codes "447700900123"))) ≡ place_at 10 FromClient 0 ∷ []
unfolding stated_length frames_of frames_within stamped word_at body_of submit_of number_of digits_of source_in deliver_of id_of mandatory_at address_at c_octet_at octets_at number_at tlv_at tlvs_within tlvs_of frames_after stream.placed
submitting-places = refl

accepting-places : batch_places (batch_of (record { 0 = 1 }) (record { 0 = 10 }) FromCentre (waiting 0 []) 1200 (response_octets 1 (codes "1"))) ≡ place_at 10 FromCentre 0 ∷ []
unfolding stated_length frames_of frames_within stamped word_at body_of submit_of number_of digits_of source_in deliver_of id_of mandatory_at address_at c_octet_at octets_at number_at tlv_at tlvs_within tlvs_of frames_after stream.placed
accepting-places = refl

-- ---- weights from lists

-- the weight of the PDU at a place, of these accepted messages and receipts
abbrev weight_from : List (Place × LinkKey) → List (Place × GroupedReceipt) → Option Pair → Place → ℕ
weight_from submits noted pair place =
    1 + unwrap_or (option_map (λ key. count_by (same_key key) (map (λ e. e.1) submits) + count_by (λ (r : GroupedReceipt). same_key key r.key) (map (λ e. e.1) noted))
    (option_or (find place_cmp place submits)
    (option_or (option_map (λ (r : GroupedReceipt). r.key) (find place_cmp place noted))
    (option_and_then (λ (pair : Pair). find place_cmp pair.request submits) pair)))) 0

-- entries that pass a test
abbrev passed : {X : Type 0} → (Place → X → Bool) → List (Place × X) → List (Place × X)
passed test es = flat_map (kept_of (λ place v. cond (test place v) (Some v) None)) es

-- a book with these messages and receipts, where the link of each number has these forms
module _ (p : PresentValue) (messages : List (Place × Message)) (receipts : List (Place × ReceivedReceipt)) (forms : ℕ → Forms)
    (messages-are : entries (traffic_of p.sessions).messages ≡ messages)
    (receipts-are : entries (traffic_of p.sessions).receipts ≡ receipts)
    (forms-are : (link : ℕ) → unwrap_or (get {K = ℕ} {R = nat_cmp} p.settings.forms link) opening_forms ≡ forms link) where
  abbrev keyed : List (Place × LinkKey)
  keyed = flat_map (kept_of (λ place (m : Message). option_map (link_key m.link (forms m.link.0).response) (accepted_id m.response))) messages

  abbrev keyed_receipts : List (Place × GroupedReceipt)
  keyed_receipts = flat_map (kept_of (λ place (r : ReceivedReceipt). Some (record { key = link_key r.link (forms r.link.0).receipt r.receipt.id; moment = r.moment; decides = can_decide r.receipt }))) receipts

  submits-listed : entries (groups p).submits ≡ keyed
  submits-listed =
      maps.entries-chosen places_total places_exact _ (traffic_of p.sessions).messages
      ∙ (λ i. flat_map (kept_of (λ place (m : Message). option_map (link_key m.link (forms-are m.link.0 i).response) (accepted_id m.response))) (messages-are i))

  noted-listed : entries (groups p).receipts ≡ keyed_receipts
  noted-listed =
      maps.entries-chosen places_total places_exact _ (traffic_of p.sessions).receipts
      ∙ (λ i. flat_map (kept_of (λ place (r : ReceivedReceipt). Some (record { key = link_key r.link (forms-are r.link.0 i).receipt r.receipt.id; moment = r.moment; decides = can_decide r.receipt }))) (receipts-are i))

  weight-listed : (place : Place) → weight p place ≡ weight_from keyed keyed_receipts (pair_in p place) place
  weight-listed place =
      (λ i.
      1 + unwrap_or (option_map (λ key. count_by (same_key key) (map (λ e. e.1) (entries (groups p).submits)) + count_by (λ (r : GroupedReceipt). same_key key r.key) (map (λ e. e.1) (entries (groups p).receipts)))
      (option_or (get-entries (groups p).submits place i)
      (option_or (option_map (λ (r : GroupedReceipt). r.key) (get-entries (groups p).receipts place i))
      (option_and_then (λ (pair : Pair). get-entries (groups p).submits pair.request i) (pair_in p place))))) 0)
      ∙ (λ i. weight_from (submits-listed i) (noted-listed i) (pair_in p place) place)

  messages-passing : (test : Place → Message → Bool) → entries (passing test (traffic_of p.sessions).messages) ≡ passed test messages
  messages-passing test =
      maps.entries-chosen places_total places_exact (λ place v. cond (test place v) (Some v) None) (traffic_of p.sessions).messages
      ∙ ap (passed test) messages-are

  receipts-passing : (test : Place → ReceivedReceipt → Bool) → entries (passing test (traffic_of p.sessions).receipts) ≡ passed test receipts
  receipts-passing test =
      maps.entries-chosen places_total places_exact (λ place v. cond (test place v) (Some v) None) (traffic_of p.sessions).receipts
      ∙ ap (passed test) receipts-are

  links-listed : (link : LinkId) → link_places link (traffic_of p.sessions)
      ≡ map (λ e. e.0) (passed (λ place (m : Message). m.link.0 == link.0) messages)
      ++ map (λ e. e.0) (passed (λ place (r : ReceivedReceipt). r.link.0 == link.0) receipts)
  links-listed link = λ i.
      map (λ e. e.0) (messages-passing (λ place (m : Message). m.link.0 == link.0) i)
      ++ map (λ e. e.0) (receipts-passing (λ place (r : ReceivedReceipt). r.link.0 == link.0) i)

-- links whose forms were never set
unset : (link : ℕ) → unwrap_or (get {K = ℕ} {R = nat_cmp} present.empty.settings.forms link) opening_forms ≡ opening_forms
unset link = ap (λ (o : Option Forms). unwrap_or o opening_forms) (get-empty nat_cmp link)

-- ---- a book of one session whose PDUs are these

module _ (s : Session) (client centre : List StoredPdu) (of_client : kept_pdus s.client ≡ client) (of_centre : kept_pdus s.centre ≡ centre) (link : s.link ≡ record { 0 = 1 }) where
  abbrev p : PresentValue
  p = record present.empty { sessions = insert empty 10 s }

  abbrev messages : List (Place × Message)
  messages = messages_among known_origin client centre ++ []

  abbrev receipts : List (Place × ReceivedReceipt)
  receipts = receipts_among known_origin centre ++ []

  abbrev key_of : Message → Option LinkKey
  key_of m = option_map (link_key m.link opening_forms.response) (accepted_id m.response)

  abbrev grouped : ReceivedReceipt → GroupedReceipt
  grouped r = record { key = link_key r.link opening_forms.receipt r.receipt.id; moment = r.moment; decides = can_decide r.receipt }

  sessions-are : entries {K = ℕ} {R = nat_cmp} (insert empty 10 s) ≡ (10, s) ∷ []
  sessions-are = maps.entries-from_entries nat_cmp_total nat_cmp-IsAntisymmetric ((10, s) ∷ []) tt

  session-is : get {K = ℕ} {R = nat_cmp} (insert empty 10 s) 10 ≡ Some s
  session-is = get-insert nat_cmp_total empty 10 s 10

  module _ (rise : T (is_sorted place_cmp messages)) (receipts_rise : T (is_sorted place_cmp receipts)) where
    messages-are : entries (traffic_of p.sessions).messages ≡ messages
    messages-are =
        ap (λ (es : List (ℕ × Session)). entries (from_entries {R = place_cmp} (flat_map session_messages es))) sessions-are
        ∙ (λ i. entries (from_entries {R = place_cmp} (messages_among (record { session = record { 0 = 10 }; link = link i }) (of_client i) (of_centre i) ++ [])))
        ∙ maps.entries-from_entries places_total places_exact messages rise

    receipts-are : entries (traffic_of p.sessions).receipts ≡ receipts
    receipts-are =
        ap (λ (es : List (ℕ × Session)). entries (from_entries {R = place_cmp} (flat_map session_receipts es))) sessions-are
        ∙ (λ i. entries (from_entries {R = place_cmp} (receipts_among (record { session = record { 0 = 10 }; link = link i }) (of_centre i) ++ [])))
        ∙ maps.entries-from_entries places_total places_exact receipts receipts_rise

    abbrev accepted : List (Place × LinkKey)
    accepted = flat_map (kept_of (λ place m. key_of m)) messages

    abbrev noted : List (Place × GroupedReceipt)
    noted = flat_map (kept_of (λ place r. Some (grouped r))) receipts

    submits-are : entries (groups p).submits ≡ accepted
    submits-are = submits-listed p messages receipts (λ link. opening_forms) messages-are receipts-are unset

    noted-are : entries (groups p).receipts ≡ noted
    noted-are = noted-listed p messages receipts (λ link. opening_forms) messages-are receipts-are unset

    -- where the session is that of the place
    pub weight-is : (place : Place) → place.session.0 ≡ 10 → weight p place ≡ weight_from accepted noted (pair_at (pairing_among known_origin client centre) place) place
    weight-is place at =
        weight-listed p messages receipts (λ link. opening_forms) messages-are receipts-are unset place
        ∙ ap (λ pair. weight_from accepted noted pair place)
        ((λ i. option_and_then (λ (s : Session). pair_at (pairing_among (record { session = record { 0 = at i }; link = s.link }) (kept_pdus s.client) (kept_pdus s.centre)) place) (get {K = ℕ} {R = nat_cmp} (insert empty 10 s) (at i)))
        ∙ ap (option_and_then (λ (s : Session). pair_at (pairing_among (record { session = record { 0 = 10 }; link = s.link }) (kept_pdus s.client) (kept_pdus s.centre)) place)) session-is
        ∙ (λ i. pair_at (pairing_among (record { session = record { 0 = 10 }; link = link i }) (of_client i) (of_centre i)) place))

    pub under-is : (prefix : List ℕ) → len (messages_under prefix (traffic_of p.sessions)) ≡ length (passed (λ place m. is_under prefix m) messages)
    under-is prefix = len-entries (messages_under prefix (traffic_of p.sessions)) ∙ ap length (messages-passing p messages receipts (λ link. opening_forms) messages-are receipts-are unset (λ place m. is_under prefix m))

    pub links-are : (link : LinkId) → link_places link (traffic_of p.sessions)
        ≡ map (λ e. e.0) (passed (λ place (m : Message). m.link.0 == link.0) messages)
        ++ map (λ e. e.0) (passed (λ place (r : ReceivedReceipt). r.link.0 == link.0) receipts)
    links-are link = links-listed p messages receipts (λ link. opening_forms) messages-are receipts-are unset link

    -- ---- a clock

    abbrev standing_from : List (Place × LinkKey) → List (Place × GroupedReceipt) → LinkKey → Standing
    standing_from submits noted key =
        cond (count_by (same_key key) (map (λ e. e.1) submits) == 1)
        (Single (option_map (λ (c : Candidate). c.1) (reduce earlier (map (λ e. (e.1.moment, e.0)) (filter (λ e. same_key key e.1.key && e.1.decides) noted))))) Shared

    -- what became of a message, from lists and by its window
    abbrev outcome_from : List (Place × LinkKey) → List (Place × GroupedReceipt) → ℕ → Message → Option LinkKey → Outcome
    outcome_from submits noted window m key = outcome_by m (record {
      standing = option_map (standing_from submits noted) key;
      decider = decider_in (traffic_of p.sessions) (option_map (standing_from submits noted) key);
      route = route_in p.settings.versions m;
      lapsed = nat_le (m.moment + window) 0;
    })

    abbrev due_from : List (Place × LinkKey) → List (Place × GroupedReceipt) → ℕ → ℕ → Message → Option LinkKey → Bool
    due_from submits noted window clock m key = is_open (outcome_from submits noted window m key) && nat_le (m.moment + window) clock

    pub lapsing-is : (clock : ℕ) → len (lapsing p.settings (with_clock p.settings clock) (traffic_of p.sessions))
        ≡ length (flat_map (kept_of (λ place (m : Message). cond (due_from accepted noted opening_window clock m (key_of m)) (Some m) None)) messages)
    lapsing-is clock =
        ap len (due-lapse p.settings (traffic_of p.sessions) clock)
        ∙ len-entries (due_by p.settings (traffic_of p.sessions) clock)
        ∙ ap length (maps.entries-chosen places_total places_exact _ (traffic_of p.sessions).messages)
        ∙ (λ i. length (flat_map (kept_of (λ place (m : Message). cond (due_from (submits-are i) (noted-are i) (unwrap_or (get-empty nat_cmp m.link.0 i) opening_window) clock m (option_map (link_key m.link (unwrap_or (get-empty nat_cmp m.link.0 i) opening_forms).response) (accepted_id m.response))) (Some m) None)) (messages-are i)))

    -- ---- a window

    abbrev due_on_from : List (Place × LinkKey) → List (Place × GroupedReceipt) → ℕ → LinkId → Message → Option LinkKey → Bool
    due_on_from submits noted window link m key = m.link.0 == link.0 && is_due (outcome_from submits noted window m key)

    -- whatever the clock is
    pub due_on-is : (clock : ℕ) (link : LinkId) → len (messages_due_on link (with_clock p.settings clock) (traffic_of p.sessions))
        ≡ length (flat_map (kept_of (λ place (m : Message). cond (due_on_from accepted noted opening_window link m (key_of m)) (Some m) None)) messages)
    due_on-is clock link =
        ap len (same-due p.settings empty clock link (traffic_of p.sessions))
        ∙ len-entries (messages_due_on link p.settings (traffic_of p.sessions))
        ∙ ap length (maps.entries-chosen places_total places_exact _ (traffic_of p.sessions).messages)
        ∙ (λ i. length (flat_map (kept_of (λ place (m : Message). cond (due_on_from (submits-are i) (noted-are i) (unwrap_or (get-empty nat_cmp m.link.0 i) opening_window) link m (option_map (link_key m.link (unwrap_or (get-empty nat_cmp m.link.0 i) opening_forms).response) (accepted_id m.response))) (Some m) None)) (messages-are i)))

-- ---- what edits leave

pub submitted-made : step present.empty submitting ≡ submitted_book
unfolding tail_from rest_of rest_within last_moment
submitted-made =
    step-made present.empty submitting (ap (λ o. first_of (append_refusals o (batch_of (record { 0 = 1 }) (record { 0 = 10 }) FromClient (waiting 0 []) 1000 (submit_octets 1 (codes "447700900123"))))) (get-empty nat_cmp 10))
    ∙ ap (λ o. record present.empty { sessions = insert empty 10 (session_after o (batch_of (record { 0 = 1 }) (record { 0 = 10 }) FromClient (waiting 0 []) 1000 (submit_octets 1 (codes "447700900123")))) }) (get-empty nat_cmp 10)

twice : {X : Type 0} (k : ℕ) (v w : X) → insert {R = nat_cmp} (insert empty k v) k w ≡ insert empty k w
twice {X} k v w = same_map nat_cmp_total nat_cmp-IsAntisymmetric _ _ (λ q.
    get-insert nat_cmp_total (insert empty k v) k w q
    ∙ ap (cond (eq_by_cmp nat_cmp q k) (Some w)) (get-insert nat_cmp_total empty k v q)
    ∙ hidden (eq_by_cmp nat_cmp q k) (get empty q)
    ∙ sym (get-insert nat_cmp_total empty k w q))
  where
    hidden : (b : Bool) (x : Option X) → cond b (Some w) (cond b (Some v) x) ≡ cond b (Some w) x
    hidden true x = refl
    hidden false x = refl

pub accepted-made : step submitted_book accepting ≡ accepted_book
unfolding tail_from rest_of rest_within last_moment
accepted-made =
    step-made submitted_book accepting (ap (λ o. first_of (append_refusals o (batch_of (record { 0 = 1 }) (record { 0 = 10 }) FromCentre (waiting 0 []) 1200 (response_octets 1 (codes "1"))))) (get-insert nat_cmp_total empty 10 submitted_session 10))
    ∙ ap (λ o. record submitted_book { sessions = insert submitted_book.sessions 10 (session_after o (batch_of (record { 0 = 1 }) (record { 0 = 10 }) FromCentre (waiting 0 []) 1200 (response_octets 1 (codes "1")))) }) (get-insert nat_cmp_total empty 10 submitted_session 10)
    ∙ ap (λ m. record submitted_book { sessions = m }) (twice 10 submitted_session accepted_session)

-- ---- how much they reach

abbrev submit_place : Place
submit_place = place_at 10 FromClient 0

abbrev response_place : Place
response_place = place_at 10 FromCentre 0

submit-weighs : weight submitted_book submit_place ≡ 1
unfolding nth_index
submit-weighs = weight-is submitted_session known_client [] client-is kept_pdus-nil refl tt tt submit_place refl

accepted-weighs : weight accepted_book submit_place ≡ 2
unfolding nth_index
accepted-weighs = weight-is accepted_session known_client known_centre client-is centre-is refl tt tt submit_place refl

response-weighs : weight accepted_book response_place ≡ 2
unfolding nth_index
response-weighs = weight-is accepted_session known_client known_centre client-is centre-is refl tt tt response_place refl

pub submits : reach present.empty submitting ≡ 1
submits =
    (λ i. weights (submitted-made i) (submitting-places i))
    ∙ sum_one submitted_book submit_place ∙ submit-weighs
  where
    sum_one : (p : PresentValue) (q : Place) → weights p (q ∷ []) ≡ weight p q
    sum_one p q = sum_by-cons (weight p) q [] ∙ omega arith

pub accepts : reach submitted_book accepting ≡ 2
accepts =
    (λ i. weights (accepted-made i) (accepting-places i))
    ∙ sum_one accepted_book response_place ∙ response-weighs
  where
    sum_one : (p : PresentValue) (q : Place) → weights p (q ∷ []) ≡ weight p q
    sum_one p q = sum_by-cons (weight p) q [] ∙ omega arith

withdrawn-places : places_in accepted_book 10 ≡ submit_place ∷ response_place ∷ []
withdrawn-places =
    ap (λ (o : Option Session). unwrap_or (option_map (λ session. session_places (10, session)) o) []) (get-insert nat_cmp_total empty 10 accepted_session 10)
    ∙ (λ i. map (place_of known_origin FromClient) (client-is i) ++ map (place_of known_origin FromCentre) (centre-is i))

pub withdraws : reach accepted_book (Withdraw (record { 0 = 10 })) ≡ 4
withdraws =
    ap (weights accepted_book) withdrawn-places
    ∙ sum_by-cons (weight accepted_book) submit_place (response_place ∷ [])
    ∙ (λ i. accepted-weighs i + (sum_by-cons (weight accepted_book) response_place [] ∙ ap (λ n. n + sum_by (weight accepted_book) []) response-weighs) i)

pub before-the-end : reach accepted_book (Advance 172800999) ≡ 0
unfolding nth_index
before-the-end = lapsing-is accepted_session known_client known_centre client-is centre-is refl tt tt 172800999

pub at-the-end : reach accepted_book (Advance 172801000) ≡ 1
unfolding nth_index
at-the-end = lapsing-is accepted_session known_client known_centre client-is centre-is refl tt tt 172801000

pub window-reaches : reach accepted_book (SetWindow (record { 0 = 1 }) 1000) ≡ 1
unfolding nth_index
window-reaches = due_on-is accepted_session known_client known_centre client-is centre-is refl tt tt 0 (record { 0 = 1 })

pub window-elsewhere : reach accepted_book (SetWindow (record { 0 = 2 }) 1000) ≡ 0
unfolding nth_index
window-elsewhere = due_on-is accepted_session known_client known_centre client-is centre-is refl tt tt 0 (record { 0 = 2 })

pub window-unanswered : reach submitted_book (SetWindow (record { 0 = 1 }) 1000) ≡ 0
unfolding nth_index
window-unanswered = due_on-is submitted_session known_client [] client-is kept_pdus-nil refl tt tt 0 (record { 0 = 1 })

pub window-at-the-end : reach (accepted_at 172801000) (SetWindow (record { 0 = 1 }) 1000) ≡ 1
unfolding nth_index
window-at-the-end = due_on-is accepted_session known_client known_centre client-is centre-is refl tt tt 172801000 (record { 0 = 1 })

pub under : len (messages_under (codes "44") (traffic_of accepted_book.sessions)) ≡ 1
under = under-is accepted_session known_client known_centre client-is centre-is refl tt tt (codes "44")

pub elsewhere : len (messages_under (codes "33") (traffic_of accepted_book.sessions)) ≡ 0
elsewhere = under-is accepted_session known_client known_centre client-is centre-is refl tt tt (codes "33")

pub of-its-link : link_places (record { 0 = 1 }) (traffic_of accepted_book.sessions) ≡ submit_place ∷ []
of-its-link = links-are accepted_session known_client known_centre client-is centre-is refl tt tt (record { 0 = 1 })

pub of-no-link : link_places (record { 0 = 2 }) (traffic_of accepted_book.sessions) ≡ []
of-no-link = links-are accepted_session known_client known_centre client-is centre-is refl tt tt (record { 0 = 2 })

-- ---- a book of two sessions, with three of one key

abbrev decided_centre : List StoredPdu
decided_centre = delivered 0 1300 ∷ record (delivered 50 1300) { seq = 91 } ∷ []

abbrev others : Origin
others = record { session = record { 0 = 20 }; link = record { 0 = 1 } }

abbrev at_20 : ℕ → Place
at_20 offset = place_at 20 FromCentre offset

receipts-sent : kept_pdus receipts_session.centre ≡ decided_centre
unfolding stated_length frames_of frames_within stamped word_at body_of submit_of number_of digits_of source_in deliver_of id_of mandatory_at address_at c_octet_at octets_at number_at tlv_at tlvs_within tlvs_of
    least_below same_letters stands_at labels_at header_of value_at value_of state_of_number state_of_word network_code_in text_code_in
    centre_delay_of text_of usable_id receipted_id state_in receipt_id_of state_of error_of receipt_of reading_of
receipts-sent = refl

both-sessions : entries {K = ℕ} {R = nat_cmp} decided_book.sessions ≡ (10, accepted_session) ∷ (20, receipts_session) ∷ []
both-sessions = maps.entries-from_entries nat_cmp_total nat_cmp-IsAntisymmetric ((10, accepted_session) ∷ (20, receipts_session) ∷ []) tt

session-of : (number : ℕ) → get {K = ℕ} {R = nat_cmp} decided_book.sessions number ≡ find nat_cmp number ((10, accepted_session) ∷ (20, receipts_session) ∷ [])
session-of number = get-entries decided_book.sessions number ∙ ap (λ (es : List (ℕ × Session)). find nat_cmp number es) both-sessions

abbrev both_messages : List (Place × Message)
both_messages = messages_among known_origin known_client known_centre ++ (messages_among others [] decided_centre ++ [])

abbrev both_receipts : List (Place × ReceivedReceipt)
both_receipts = receipts_among known_origin known_centre ++ (receipts_among others decided_centre ++ [])

both-messages : entries (traffic_of decided_book.sessions).messages ≡ both_messages
unfolding nth_index
both-messages =
    ap (λ (es : List (ℕ × Session)). entries (from_entries {R = place_cmp} (flat_map session_messages es))) both-sessions
    ∙ (λ i. entries (from_entries {R = place_cmp} (messages_among known_origin (client-is i) (centre-is i) ++ (messages_among others (kept_pdus-nil i) (receipts-sent i) ++ []))))
    ∙ maps.entries-from_entries places_total places_exact both_messages tt

both-receipts : entries (traffic_of decided_book.sessions).receipts ≡ both_receipts
both-receipts =
    ap (λ (es : List (ℕ × Session)). entries (from_entries {R = place_cmp} (flat_map session_receipts es))) both-sessions
    ∙ (λ i. entries (from_entries {R = place_cmp} (receipts_among known_origin (centre-is i) ++ (receipts_among others (receipts-sent i) ++ []))))
    ∙ maps.entries-from_entries places_total places_exact both_receipts tt

-- the pair of the response, whatever is set
answered-pair : pair_in decided_book response_place ≡ pair_at (pairing_among known_origin known_client known_centre) response_place
answered-pair =
    ap (option_and_then (λ (s : Session). pair_at (session_pairing (10, s)) response_place)) (session-of 10)
    ∙ (λ i. pair_at (pairing_among known_origin (client-is i) (centre-is i)) response_place)

-- the weights where link 1 has these forms
abbrev link_1 : Forms → ℕ → Forms
link_1 form link = cond (eq_by_cmp nat_cmp link 1) form opening_forms

module _ (set : FinMap nat_cmp Forms) (form : Forms) (forms-are : (link : ℕ) → unwrap_or (get set link) opening_forms ≡ link_1 form link) where
  abbrev q : PresentValue
  q = record decided_book { settings = record opening_settings { forms = set } }

  weighs : (place : Place) → weight q place
      ≡ weight_from (keyed q both_messages both_receipts (link_1 form) both-messages both-receipts forms-are)
      (keyed_receipts q both_messages both_receipts (link_1 form) both-messages both-receipts forms-are) (pair_in q place) place
  weighs place = weight-listed q both_messages both_receipts (link_1 form) both-messages both-receipts forms-are place

adds : (p : PresentValue) (place : Place) (places : List Place) (n k : ℕ) → weight p place ≡ n → weights p places ≡ k → weights p (place ∷ places) ≡ n + k
adds p place places n k one more = sum_by-cons (weight p) place places ∙ (λ i. one i + more i)

abbrev verbatim_forms : FinMap nat_cmp Forms
verbatim_forms = present.empty.settings.forms

verbatim : (link : ℕ) → unwrap_or (get verbatim_forms link) opening_forms ≡ link_1 opening_forms link
verbatim link = unset link ∙ either (eq_by_cmp nat_cmp link 1)
  where
    either : (b : Bool) → opening_forms ≡ cond b opening_forms opening_forms
    either true = refl
    either false = refl

abbrev decimal : Forms
decimal = record { response = Decimal; receipt = Decimal }

abbrev decimal_forms : FinMap nat_cmp Forms
decimal_forms = insert verbatim_forms 1 decimal

decimals : (link : ℕ) → unwrap_or (get decimal_forms link) opening_forms ≡ link_1 decimal link
decimals link =
    ap (λ (o : Option Forms). unwrap_or o opening_forms) (get-insert nat_cmp_total verbatim_forms 1 decimal link)
    ∙ either (eq_by_cmp nat_cmp link 1)
  where
    either : (b : Bool) → unwrap_or (cond b (Some decimal) (get verbatim_forms link)) opening_forms ≡ cond b decimal opening_forms
    either true = refl
    either false = unset link

-- the message and the two receipts of its key
abbrev two : List Place
two = at_20 0 ∷ at_20 50 ∷ []

abbrev three : List Place
three = submit_place ∷ two

two-weigh : weights decided_book two ≡ 8
unfolding nth_index
two-weigh =
    adds decided_book (at_20 0) (at_20 50 ∷ []) 4 4 (weighs verbatim_forms opening_forms verbatim (at_20 0))
    (adds decided_book (at_20 50) [] 4 0 (weighs verbatim_forms opening_forms verbatim (at_20 50)) refl)

three-weigh : weights decided_book three ≡ 12
unfolding nth_index
three-weigh = adds decided_book submit_place two 4 8 (weighs verbatim_forms opening_forms verbatim submit_place) two-weigh

abbrev decimal_book : PresentValue
decimal_book = q decimal_forms decimal decimals

three-weigh-as-numbers : weights decimal_book three ≡ 12
unfolding nth_index
three-weigh-as-numbers =
    adds decimal_book submit_place two 4 8 (weighs decimal_forms decimal decimals submit_place)
    (adds decimal_book (at_20 0) (at_20 50 ∷ []) 4 4 (weighs decimal_forms decimal decimals (at_20 0))
    (adds decimal_book (at_20 50) [] 4 0 (weighs decimal_forms decimal decimals (at_20 50)) refl))

answered-weighs : weight decided_book response_place ≡ 4
unfolding nth_index
answered-weighs =
    weighs verbatim_forms opening_forms verbatim response_place
    ∙ ap (λ pair. weight_from (keyed decided_book both_messages both_receipts (link_1 opening_forms) both-messages both-receipts verbatim)
    (keyed_receipts decided_book both_messages both_receipts (link_1 opening_forms) both-messages both-receipts verbatim) pair response_place) answered-pair

pub withdraws-of-three : reach decided_book (Withdraw (record { 0 = 10 })) ≡ 8
unfolding nth_index
withdraws-of-three =
    ap (weights decided_book)
    (ap (λ (o : Option Session). unwrap_or (option_map (λ session. session_places (10, session)) o) []) (session-of 10)
    ∙ (λ i. map (place_of known_origin FromClient) (client-is i) ++ map (place_of known_origin FromCentre) (centre-is i)))
    ∙ adds decided_book submit_place (response_place ∷ []) 4 4 (weighs verbatim_forms opening_forms verbatim submit_place)
    (adds decided_book response_place [] 4 0 answered-weighs refl)

pub withdraws-two-of-three : reach decided_book (Withdraw (record { 0 = 20 })) ≡ 8
withdraws-two-of-three =
    ap (weights decided_book)
    (ap (λ (o : Option Session). unwrap_or (option_map (λ session. session_places (20, session)) o) []) (session-of 20)
    ∙ (λ i. map (place_of others FromClient) (kept_pdus-nil i) ++ map (place_of others FromCentre) (receipts-sent i)))
    ∙ two-weigh

pub forms-of-its-link : reach decided_book (SetForm (record { 0 = 1 }) Decimal Decimal) ≡ 24
unfolding nth_index
forms-of-its-link =
    (λ i. weights decided_book (of-link i) + weights decimal_book (of-link i))
    ∙ (λ i. three-weigh i + three-weigh-as-numbers i)
  where
    of-link : link_places (record { 0 = 1 }) (traffic_of decided_book.sessions) ≡ three
    of-link = links-listed decided_book both_messages both_receipts (link_1 opening_forms) both-messages both-receipts verbatim (record { 0 = 1 })

pub forms-of-no-link : reach decided_book (SetForm (record { 0 = 2 }) Decimal Decimal) ≡ 0
unfolding nth_index
forms-of-no-link = λ i. weights decided_book (of-link i) + weights (record decided_book { settings = record opening_settings { forms = insert verbatim_forms 2 decimal } }) (of-link i)
  where
    of-link : link_places (record { 0 = 2 }) (traffic_of decided_book.sessions) ≡ []
    of-link = links-listed decided_book both_messages both_receipts (link_1 opening_forms) both-messages both-receipts verbatim (record { 0 = 2 })
