-- Known messages and receipts: what became of each, why, how late, and which receipts are listed.
use Rattle.std.specs.Prelude.{◌≡◌, ℕ, true, false, List, [], ◌∷◌, ◌++◌, map, codes, Option, Some, None, pos, neg_ℤ}
use Rattle.std.specs.List.{flat_map}
use Rattle.std.specs.FinMap as map
use Rattle.smq_kit.specs.declared.message_id.Form.{Form}
use Rattle.smq_kit.specs.declared.message_id.Form.TheVariants.{Verbatim, Decimal, Hexadecimal}
use Rattle.smq_kit.specs.declared.place.Dir.TheVariants.{FromClient, FromCentre}
use Rattle.smq_kit.specs.declared.error_code.ErrorCode.TheVariants as e
use Rattle.smq_receipt.specs.declared.message_state.MessageState.TheVariants.{Enroute, Delivered, Expired, Deleted, Undeliverable, Accepted, Unknown, Rejected}
use Rattle.smq_receipt.specs.declared.reading.Reading.{Reading}
use Rattle.smq_receipt.specs.declared.reading.Reading.TheVariants as v
use Rattle.smq_tally.specs.declared.list.List.TheVariants as l
use Rattle.smq_tally.specs.declared.list.Listed.{Listed}
use Rattle.smq_tally.specs.declared.band.Band.{Band}
use Rattle.smq_tally.specs.declared.band.Band.TheVariants as b
use Rattle.smq_tally.specs.declared.fact.Fact.{Fact}
use Rattle.smq_tally.specs.declared.outcome.Outcome.{Outcome}
use Rattle.smq_tally.specs.declared.outcome.Outcome.TheVariants as o
use Rattle.smq_tally.specs.declared.value.SubmitError.{SubmitError}
use Rattle.smq_tally.specs.declared.value.SubmitError.TheVariants as s
use Rattle.smq_present.specs.present.Content as c
use Rattle.smq_present.specs.declared.present.kept.StoredPdu.{StoredPdu}
use Rattle.smq_present.specs.present.Settings.{SettingsValue, opening_settings, with_clock}
use Rattle.smq_present.specs.present.Steps.{with_window}
use Rattle.smq_present.specs.pairing.Traffic.{Origin, TrafficValue, traffic_among, messages_among, receipts_among, notes_among}
use Rattle.smq_present.specs.join.Facts.{facts_of}
use Rattle.smq_present.specs.join.Keyed.{grouping_of}
use Rattle.smq_present.specs.join.Listings.{receipt_notes}
use Rattle.smq_present.specs.join.Outcomes.{is_delivered}
use Rattle.smq_tally.specs.Lists.{listed}
use Rattle.smq_present.specs.known.Pairing.{pdu, submit, data_sm, data_sm_accepted, accepted, without_id, nack, link_response, receipt_saying, receipt_pdu, delivered, failed, delivered_after, known_origin, place_at}

-- link 1 has these forms
abbrev pub settings_with : Form → Form → SettingsValue
settings_with response receipt =
    record opening_settings { forms = map.insert map.empty 1 (record { response = response; receipt = receipt }) }

-- what the PDUs of session 10 say, where there is no other session
abbrev pub known_traffic : List StoredPdu → List StoredPdu → TrafficValue
known_traffic client centre =
    traffic_among (messages_among known_origin client centre) (receipts_among known_origin centre)
    (notes_among known_origin client centre)

-- what is known of its messages, in the order of their places
unfoldable pub known_facts : SettingsValue → List StoredPdu → List StoredPdu → List Fact
known_facts s client centre = map.values (facts_of s (known_traffic client centre))

-- what became of them, where ids are taken verbatim
unfoldable pub outcomes_among : List StoredPdu → List StoredPdu → List Outcome
outcomes_among client centre =
    map (λ fact. fact.outcome) (known_facts (settings_with Verbatim Verbatim) client centre)

-- why they failed
unfoldable pub errors_among : List StoredPdu → List StoredPdu → List (Option SubmitError)
errors_among client centre =
    map (λ fact. fact.error) (known_facts (settings_with Verbatim Verbatim) client centre)

-- what became of them at a clock
unfoldable pub outcomes_at : ℕ → List StoredPdu → List StoredPdu → List Outcome
outcomes_at clock client centre =
    map (λ fact. fact.outcome) (known_facts (with_clock (settings_with Verbatim Verbatim) clock) client centre)

-- what became of them at a clock, where this window of the link of a number was set
unfoldable pub outcomes_by_window : ℕ → ℕ → ℕ → List StoredPdu → List StoredPdu → List Outcome
outcomes_by_window link window clock client centre =
    map (λ fact. fact.outcome)
    (known_facts (with_clock (with_window (settings_with Verbatim Verbatim) (record { 0 = link }) window) clock) client centre)

-- their delays, on the link and at the centre
unfoldable pub delays_among : List StoredPdu → List StoredPdu → List (Option Band × Option Band)
delays_among client centre =
    map (λ fact. (fact.link_delay, fact.centre_delay)) (known_facts (settings_with Verbatim Verbatim) client centre)

-- what became of one submit_sm with each registered_delivery, where these are the centre's PDUs
unfoldable pub outcomes_by_delivery : List StoredPdu → List ℕ → List Outcome
outcomes_by_delivery centre deliveries =
    flat_map (λ registered_delivery. outcomes_among (submit 0 1 registered_delivery ∷ []) centre) deliveries

-- the centre's response that gives one id, and its receipt of another that says that the message was delivered
abbrev pub responded_and_reported : List ℕ → List ℕ → List StoredPdu
responded_and_reported given reported =
    pdu 0 0x8000_0004 0 1 (c.SubmitAnswer (Some given))
    ∷ receipt_pdu 18 5000 (record (receipt_saying Delivered e.Unstated false) { id = reported }) ∷ []

-- what became of a submit_sm with these, under the link's forms of responses and receipts
unfoldable pub outcomes_under : Form → Form → List ℕ → List ℕ → List Outcome
outcomes_under response receipt given reported =
    map (λ fact. fact.outcome)
    (known_facts (settings_with response receipt) (submit 0 1 1 ∷ []) (responded_and_reported given reported))

-- session 11 of link 1
abbrev pub later_origin : Origin
later_origin = record { session = record { 0 = 11 }; link = record { 0 = 1 } }

-- the delivery receipts in lists, where these are the PDUs of session 10 and those of the centre of session 11, under the
-- link's forms of responses and receipts
unfoldable pub listings_under : Form → Form → List StoredPdu → List StoredPdu → List StoredPdu → List Listed
listings_under response receipt client centre later =
    receipt_notes (grouping_of (settings_with response receipt)
    (traffic_among (messages_among known_origin client centre)
    (receipts_among known_origin centre ++ receipts_among later_origin later) []))

-- the same of one submit_sm and its response, which gives the id `1`
abbrev pub listings_after : List StoredPdu → List StoredPdu → List Listed
listings_after centre later = listings_under Verbatim Verbatim (submit 0 1 1 ∷ []) (accepted 1 ∷ centre) later

-- the reading of a receipt of the message id `1` that says that the message was delivered
abbrev pub known_receipt : Reading
known_receipt = v.Receipt (receipt_saying Delivered e.Unstated false)

-- What became of messages that are written out.
pub record KnownOutcomes : Type 0 where
  pub unanswered : outcomes_by_delivery [] (0 ∷ 1 ∷ []) ≡ o.Waiting ∷ o.Waiting ∷ []
  pub of_another_number : outcomes_by_delivery (accepted 2 ∷ []) (0 ∷ 1 ∷ []) ≡ o.Waiting ∷ o.Waiting ∷ []
  pub other_command : outcomes_by_delivery (link_response 0 1 ∷ []) (0 ∷ 1 ∷ []) ≡ o.Mismatched ∷ o.Mismatched ∷ []
  pub other_command_with_status :
      outcomes_by_delivery (link_response 3 1 ∷ []) (0 ∷ 1 ∷ [])
      ≡ o.Mismatched ∷ o.Mismatched ∷ []
  pub nack_with_status : outcomes_by_delivery (nack 3 1 ∷ []) (0 ∷ 1 ∷ []) ≡ o.Refused ∷ o.Refused ∷ []
  pub nack_with_great_status :
      outcomes_by_delivery (nack 0x0100_0000 1 ∷ []) (0 ∷ 1 ∷ [])
      ≡ o.Refused ∷ o.Refused ∷ []
  pub response_with_status :
      outcomes_by_delivery (pdu 0 0x8000_0004 8 1 (c.SubmitAnswer (Some (49 ∷ []))) ∷ []) (0 ∷ 1 ∷ [])
      ≡ o.Refused ∷ o.Refused ∷ []
  pub nack_without_status : outcomes_by_delivery (nack 0 1 ∷ []) (0 ∷ 1 ∷ []) ≡ o.NoId ∷ o.NoId ∷ []
  pub no_id : outcomes_by_delivery (without_id 1 ∷ []) (0 ∷ 1 ∷ []) ≡ o.NoId ∷ o.NoId ∷ []
  pub unasked : outcomes_by_delivery (accepted 1 ∷ []) (0 ∷ 4 ∷ 16 ∷ []) ≡ o.Unasked ∷ o.Unasked ∷ o.Unasked ∷ []
  pub is_open : outcomes_by_delivery (accepted 1 ∷ []) (1 ∷ 2 ∷ 3 ∷ 5 ∷ []) ≡ o.Open ∷ o.Open ∷ o.Open ∷ o.Open ∷ []
  pub one_number_twice :
      outcomes_among (submit 0 7 1 ∷ submit 49 7 1 ∷ []) (accepted 7 ∷ nack 3 7 ∷ [])
      ≡ o.Open ∷ o.Refused ∷ []
  -- outbind and alert_notification have no response, so they take none
  pub after_no_requests :
      outcomes_among (pdu 0 0x0000_000b 0 7 c.Other ∷ pdu 16 0x0000_0102 0 7 c.Other ∷ submit 32 7 1 ∷ [])
      (accepted 7 ∷ [])
      ≡ o.Open ∷ []
  -- a submit_sm that can't be decoded is no message, but takes its response
  pub after_undecodable :
      outcomes_among (pdu 0 0x0000_0004 0 7 c.Undecodable ∷ submit 16 7 1 ∷ []) (accepted 7 ∷ [])
      ≡ o.Waiting ∷ []
  pub of_the_centre : outcomes_among [] (submit 0 7 1 ∷ []) ≡ []
  -- a data_sm of the client is a message as a submit_sm is, and the response to either is of its own command
  pub by_data_sm :
      outcomes_among (data_sm 0 1 1 v.NotReceipt ∷ data_sm 42 2 0 v.NotReceipt ∷ []) (data_sm_accepted 1 ∷ [])
      ≡ o.Open ∷ o.Waiting ∷ []
  pub unasked_by_data_sm :
      outcomes_among (data_sm 0 1 0 v.NotReceipt ∷ []) (data_sm_accepted 1 ∷ [])
      ≡ o.Unasked ∷ []
  pub data_sm_resp_to_submit_sm : outcomes_among (submit 0 1 1 ∷ []) (data_sm_accepted 1 ∷ []) ≡ o.Mismatched ∷ []
  pub submit_sm_resp_to_data_sm :
      outcomes_among (data_sm 0 1 1 v.NotReceipt ∷ []) (accepted 1 ∷ [])
      ≡ o.Mismatched ∷ []
  pub data_sm_of_the_centre : outcomes_among [] (data_sm 0 7 1 v.NotReceipt ∷ []) ≡ []
  pub first_fact :
      known_facts (settings_with Verbatim Verbatim) (submit 49 7 1 ∷ []) []
      ≡ record {
        place = record { session = record { 0 = 10 }; dir = FromClient; offset = 49 };
        link = record { 0 = 1 };
        route = None;
        outcome = o.Waiting;
        error = None;
        link_delay = None;
        centre_delay = None;
      } ∷ []
  -- a window that was never set is 48 hours, from the moment of the submit_sm, 1000
  pub before_its_end : outcomes_at 172800999 (submit 0 1 1 ∷ []) (accepted 1 ∷ []) ≡ o.Open ∷ []
  pub at_its_end : outcomes_at 172801000 (submit 0 1 1 ∷ []) (accepted 1 ∷ []) ≡ o.Lapsed ∷ []
  pub after_its_end : outcomes_at 172801001 (submit 0 1 1 ∷ []) (accepted 1 ∷ []) ≡ o.Lapsed ∷ []
  pub long_after : outcomes_at 4102444800000 (submit 0 1 1 ∷ []) (accepted 1 ∷ []) ≡ o.Lapsed ∷ []
  pub unasked_after : outcomes_at 172801000 (submit 0 1 0 ∷ []) (accepted 1 ∷ []) ≡ o.Unasked ∷ []
  pub unanswered_after : outcomes_at 172801000 (submit 0 1 1 ∷ []) [] ≡ o.Waiting ∷ []
  pub other_command_after : outcomes_at 172801000 (submit 0 1 1 ∷ []) (link_response 0 1 ∷ []) ≡ o.Mismatched ∷ []
  pub refused_after : outcomes_at 172801000 (submit 0 1 1 ∷ []) (nack 3 1 ∷ []) ≡ o.Refused ∷ []
  pub no_id_after : outcomes_at 172801000 (submit 0 1 1 ∷ []) (without_id 1 ∷ []) ≡ o.NoId ∷ []

-- When messages that are written out lapse, of the moment 1000 and the link 1, by a window of their link or of another.
pub record KnownLapses : Type 0 where
  pub at_its_end : outcomes_by_window 1 1000 2000 (submit 0 1 1 ∷ []) (accepted 1 ∷ []) ≡ o.Lapsed ∷ []
  pub before_its_end : outcomes_by_window 1 1001 2000 (submit 0 1 1 ∷ []) (accepted 1 ∷ []) ≡ o.Open ∷ []
  pub least_at_once : outcomes_by_window 1 1 1000 (submit 0 1 1 ∷ []) (accepted 1 ∷ []) ≡ o.Open ∷ []
  pub least_after_1_ms : outcomes_by_window 1 1 1001 (submit 0 1 1 ∷ []) (accepted 1 ∷ []) ≡ o.Lapsed ∷ []
  pub by_that_of_another_link : outcomes_by_window 2 1 2000 (submit 0 1 1 ∷ []) (accepted 1 ∷ []) ≡ o.Open ∷ []
  pub by_that_of_a_far_link : outcomes_by_window 65537 1 2000 (submit 0 1 1 ∷ []) (accepted 1 ∷ []) ≡ o.Open ∷ []
  pub greater_than_any : outcomes_by_window 1 4102444800000 172801000 (submit 0 1 1 ∷ []) (accepted 1 ∷ []) ≡ o.Open ∷ []
  pub unasked : outcomes_by_window 1 1000 2000 (submit 0 1 0 ∷ []) (accepted 1 ∷ []) ≡ o.Unasked ∷ []
  pub unanswered : outcomes_by_window 1 1000 2000 (submit 0 1 1 ∷ []) [] ≡ o.Waiting ∷ []
  pub delivered_late :
      outcomes_by_window 1 1000 2000 (submit 0 1 1 ∷ []) (accepted 1 ∷ delivered 18 5000 ∷ [])
      ≡ o.Delivered ∷ []

-- What receipts that are written out make of messages. Each is of the id `1`, which `accepted` gives, but for those under
-- forms.
pub record KnownReceipts : Type 0 where
  pub was_delivered :
      outcomes_by_delivery (accepted 1 ∷ delivered 18 5000 ∷ []) (0 ∷ 1 ∷ [])
      ≡ o.Delivered ∷ o.Delivered ∷ []
  pub delivered_states :
      map is_delivered
      (Enroute ∷ Delivered ∷ Expired ∷ Deleted ∷ Undeliverable ∷ Accepted ∷ Unknown ∷ Rejected ∷ [])
      ≡ false ∷ true ∷ false ∷ false ∷ false ∷ false ∷ false ∷ false ∷ []
  pub has_failed : outcomes_by_delivery (accepted 1 ∷ failed 18 5000 ∷ []) (0 ∷ 1 ∷ []) ≡ o.Failed ∷ o.Failed ∷ []
  -- whichever came first in the stream, the earlier moment decides
  pub earlier :
      outcomes_among (submit 0 1 1 ∷ []) (accepted 1 ∷ failed 18 5000 ∷ delivered 68 4000 ∷ [])
      ≡ o.Delivered ∷ []
  pub before_its_response : outcomes_among (submit 0 1 1 ∷ []) (delivered 0 500 ∷ accepted 1 ∷ []) ≡ o.Delivered ∷ []
  pub tie : outcomes_among (submit 0 1 1 ∷ []) (accepted 1 ∷ failed 18 5000 ∷ delivered 68 5000 ∷ []) ≡ o.Failed ∷ []
  pub interim :
      outcomes_among (submit 0 1 1 ∷ [])
      (accepted 1 ∷ receipt_pdu 18 5000 (receipt_saying Delivered e.Unstated true) ∷ [])
      ≡ o.Open ∷ []
  pub not_final :
      outcomes_among (submit 0 1 1 ∷ [])
      (accepted 1 ∷ receipt_pdu 18 5000 (receipt_saying Enroute e.Unstated false)
      ∷ receipt_pdu 68 5000 (receipt_saying Accepted e.Unstated false) ∷ [])
      ≡ o.Open ∷ []
  pub after_an_interim :
      outcomes_among (submit 0 1 1 ∷ [])
      (accepted 1 ∷ receipt_pdu 18 4000 (receipt_saying Undeliverable e.Unstated true) ∷ delivered 68 5000 ∷ [])
      ≡ o.Delivered ∷ []
  pub of_the_client : outcomes_among (submit 0 1 1 ∷ delivered 49 5000 ∷ []) (accepted 1 ∷ []) ≡ o.Open ∷ []
  -- a data_sm of the centre may be a receipt, and one of the client is a message
  pub by_data_sm :
      outcomes_among (submit 0 1 1 ∷ []) (accepted 1 ∷ data_sm 18 90 0 known_receipt ∷ [])
      ≡ o.Delivered ∷ []
  pub of_the_clients_data_sm :
      outcomes_among (submit 0 1 1 ∷ data_sm 49 2 0 known_receipt ∷ []) (accepted 1 ∷ [])
      ≡ o.Open ∷ o.Waiting ∷ []
  pub refused : outcomes_among (submit 0 1 1 ∷ []) (nack 3 1 ∷ delivered 16 5000 ∷ []) ≡ o.Refused ∷ []
  pub ambiguous :
      outcomes_among (submit 0 1 1 ∷ submit 49 2 0 ∷ []) (accepted 1 ∷ accepted 2 ∷ delivered 36 5000 ∷ [])
      ≡ o.Ambiguous ∷ o.Ambiguous ∷ []
  pub ambiguous_after :
      outcomes_at 172801000 (submit 0 1 1 ∷ submit 49 2 1 ∷ []) (accepted 1 ∷ accepted 2 ∷ [])
      ≡ o.Ambiguous ∷ o.Ambiguous ∷ []
  -- a receipt decides however late it comes, at a clock past the window too
  pub delivered_late :
      outcomes_at 172801000 (submit 0 1 1 ∷ []) (accepted 1 ∷ delivered 18 172801000 ∷ [])
      ≡ o.Delivered ∷ []
  pub failed_late :
      outcomes_at 172801000 (submit 0 1 1 ∷ []) (accepted 1 ∷ failed 18 172801000 ∷ [])
      ≡ o.Failed ∷ []
  pub interim_late :
      outcomes_at 172801000 (submit 0 1 1 ∷ [])
      (accepted 1 ∷ receipt_pdu 18 5000 (receipt_saying Delivered e.Unstated true) ∷ [])
      ≡ o.Lapsed ∷ []
  pub forms : outcomes_under Hexadecimal Decimal (codes "0000A1B2") (codes "0000041394") ≡ o.Delivered ∷ []
  pub forms_exchanged : outcomes_under Decimal Hexadecimal (codes "0000A1B2") (codes "0000041394") ≡ o.Open ∷ []
  pub zeros : outcomes_under Decimal Decimal (codes "07") (codes "007") ≡ o.Delivered ∷ []
  pub verbatim : outcomes_under Verbatim Verbatim (codes "07") (codes "007") ≡ o.Open ∷ []
  pub why :
      errors_among (submit 0 1 1 ∷ submit 49 2 1 ∷ submit 98 3 1 ∷ [])
      (accepted 1 ∷ nack 0x0102_0304 2 ∷ accepted 4 ∷ receipt_pdu 50 5000 (receipt_saying Expired (e.Network 3 8) false)
      ∷ [])
      ≡ Some (s.Failed (e.Network 3 8)) ∷ Some (s.Refused 0x0102_0304) ∷ None ∷ []
  pub why_not :
      errors_among (submit 0 1 1 ∷ [])
      (accepted 1 ∷ receipt_pdu 18 5000 (receipt_saying Delivered (e.Network 3 8) false) ∷ [])
      ≡ None ∷ []
  -- delays from the moment of the submit_sm, 1000, and those by the centre's dates
  pub before_it :
      delays_among (submit 0 1 1 ∷ []) (accepted 1 ∷ delivered 18 999 ∷ [])
      ≡ (Some b.Early, None) ∷ []
  pub at_once :
      delays_among (submit 0 1 1 ∷ []) (accepted 1 ∷ delivered_after 18 1000 (neg_ℤ (pos 1)) ∷ [])
      ≡ (Some b.Under5Seconds, Some b.Early) ∷ []
  pub under_5_seconds :
      delays_among (submit 0 1 1 ∷ []) (accepted 1 ∷ delivered_after 18 5999 (pos 5000) ∷ [])
      ≡ (Some b.Under5Seconds, Some b.Under30Seconds) ∷ []
  pub of_5_seconds :
      delays_among (submit 0 1 1 ∷ []) (accepted 1 ∷ delivered_after 18 6000 (pos 0) ∷ [])
      ≡ (Some b.Under30Seconds, Some b.Under5Seconds) ∷ []
  pub of_an_hour :
      delays_among (submit 0 1 1 ∷ []) (accepted 1 ∷ failed 18 3601000 ∷ [])
      ≡ (Some b.Over, None) ∷ []
  pub no_delays :
      delays_among (submit 0 1 1 ∷ submit 49 2 1 ∷ submit 98 3 1 ∷ submit 147 4 1 ∷ [])
      (accepted 1 ∷ nack 3 2 ∷ pdu 34 0x8000_0004 0 3 (c.SubmitAnswer (Some (50 ∷ [])))
      ∷ pdu 52 0x8000_0004 0 4 (c.SubmitAnswer (Some (50 ∷ []))) ∷ [])
      ≡ (None, None) ∷ (None, None) ∷ (None, None) ∷ (None, None) ∷ []

-- Delivery receipts that are written out, in their lists. Each is of the id `1`, but for those under forms.
pub record KnownListings : Type 0 where
  pub no_message :
      listings_under Verbatim Verbatim [] (delivered 0 5000 ∷ []) []
      ≡ listed l.StrayReceipts (place_at 10 FromCentre 0) ∷ []
  pub not_final_of_no_message :
      listings_under Verbatim Verbatim [] (receipt_pdu 18 5000 (receipt_saying Enroute e.Unstated false) ∷ []) []
      ≡ listed l.StrayReceipts (place_at 10 FromCentre 18) ∷ []
  pub of_a_refused_message :
      listings_under Verbatim Verbatim (submit 0 1 1 ∷ [])
      (pdu 0 0x8000_0004 8 1 (c.SubmitAnswer (Some (49 ∷ []))) ∷ delivered 18 5000 ∷ []) []
      ≡ listed l.StrayReceipts (place_at 10 FromCentre 18) ∷ []
  pub of_two_messages :
      listings_under Verbatim Verbatim (submit 0 1 1 ∷ submit 49 2 0 ∷ []) (accepted 1 ∷ accepted 2 ∷ delivered 36 5000 ∷ []) []
      ≡ listed l.AmbiguousReceipts (place_at 10 FromCentre 36) ∷ []
  pub of_three_messages :
      listings_under Verbatim Verbatim (submit 0 1 1 ∷ submit 49 2 1 ∷ submit 98 3 1 ∷ [])
      (accepted 1 ∷ accepted 2 ∷ accepted 3 ∷ receipt_pdu 54 5000 (receipt_saying Enroute e.Unstated false) ∷ []) []
      ≡ listed l.AmbiguousReceipts (place_at 10 FromCentre 54) ∷ []
  pub decides : listings_after (delivered 18 5000 ∷ []) [] ≡ []
  -- of two sessions' receipts of one moment the earlier place decides, and else the earlier moment
  pub extra_of_a_moment :
      listings_after (delivered 18 5000 ∷ []) (failed 0 5000 ∷ [])
      ≡ listed l.ExtraReceipts (place_at 11 FromCentre 0) ∷ []
  pub extra_later :
      listings_after (delivered 18 5000 ∷ []) (failed 0 4000 ∷ [])
      ≡ listed l.ExtraReceipts (place_at 10 FromCentre 18) ∷ []
  pub not_final :
      listings_after (delivered 18 5000 ∷ receipt_pdu 68 6000 (receipt_saying Enroute e.Unstated false) ∷ []) [] ≡ []
  pub interim :
      listings_after (delivered 18 5000 ∷ receipt_pdu 68 6000 (receipt_saying Delivered e.Unstated true) ∷ []) [] ≡ []
  pub forms :
      listings_under Hexadecimal Decimal (submit 0 1 1 ∷ [])
      (responded_and_reported (codes "0000A1B2") (codes "0000041394")) []
      ≡ []
  pub forms_exchanged :
      listings_under Decimal Hexadecimal (submit 0 1 1 ∷ [])
      (responded_and_reported (codes "0000A1B2") (codes "0000041394")) []
      ≡ listed l.StrayReceipts (place_at 10 FromCentre 18) ∷ []
