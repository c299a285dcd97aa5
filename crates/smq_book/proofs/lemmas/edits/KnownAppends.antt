-- What known batches put into the notes and take out of them: their PDUs and tails, which the prover computes.
use Rattle.std.proofs.Common.{◌≡◌, ℕ, List, [], ◌∷◌, ◌++◌, Some, None, refl}
use Rattle.std.specs.Prelude.{codes}
use Rattle.smq_kit.specs.declared.place.Dir.TheVariants.{FromClient, FromCentre}
use Rattle.smq_frame.specs.Framing.{stated_length, frames_of, frames_within, rest_of, rest_within}
use Rattle.smq_frame.specs.Stream.{stamped, frames_after}
use Rattle.smq_frame.specs.Stream as stream
use Rattle.smq_frame.specs.Tail.{tail_from, tail_after}
use Rattle.smq_pdu.specs.Header.{word_at}
use Rattle.smq_pdu.specs.Numbers.{number_of, digits_of}
use Rattle.smq_pdu.specs.Sources.{source_in}
use Rattle.smq_pdu.specs.Pdu.{body_of, submit_of, deliver_of, id_of}
use Rattle.smq_pdu.specs.Readers.{mandatory_at, address_at, c_octet_at, octets_at, number_at, tlv_at, tlvs_within, tlvs_of}
use Rattle.smq_receipt.specs.Places.{least_below}
use Rattle.smq_receipt.specs.Texts.{same_letters, stands_at, labels_at, header_of, value_at, value_of}
use Rattle.smq_receipt.specs.States.{state_of_number, state_of_word}
use Rattle.smq_receipt.specs.Readings as readings
use Rattle.smq_receipt.specs.Readings.{text_of, usable_id, receipted_id, state_in, state_of, receipt_of, reading_of}
use Rattle.smq_receipt.specs.declared.reading.Reading.TheVariants as v
use Rattle.smq_tally.specs.declared.list.List.TheVariants as l
use Rattle.smq_tally.specs.Lists.{listed}
use Rattle.smq_present.specs.present.Content.{Content}
use Rattle.smq_present.specs.present.Content as c
use Rattle.smq_present.specs.declared.present.kept.StoredPdu.{StoredPdu}
use Rattle.smq_book.specs.known.Appended.{first_batch, other_response, answered_session, unread_octets}
use Rattle.smq_present.specs.known.Pairing.{place_at, known_origin, said, submit_octets, response_octets}
use Rattle.smq_present.specs.known.Present.{waiting}
use Rattle.smq_book.specs.known.Reach.{submitted_session}
use Rattle.smq_present.specs.present.Batch.{batch_pdus, next_tail}
use Rattle.smq_present.specs.present.Kept.{kept_pdus}
use Rattle.smq_present.specs.join.Moves.{PutNote, TakeNote}
use Rattle.smq_book.specs.edits.AppendedNotes.{note_moves, broken_moves, append_notes}
use Rattle.smq_book.proofs.lemmas.edits.KnownReach.{client-is}
use Rattle.smq_present.proofs.lemmas.present.Growth.{kept_pdus-nil}

abbrev pdu : ℕ → ℕ → ℕ → ℕ → Content → StoredPdu
pdu offset moment command seq content =
    record { offset = offset; moment = moment; command = command; status = 0; seq = seq; content = content }

-- ---- the PDUs of the batches

abbrev asking : List StoredPdu
asking = pdu 0 1200 4 1 (c.Submit (said 1 (Some (codes "447700900123")))) ∷ []

asking-pdus : batch_pdus (first_batch FromClient (submit_octets 1 (codes "447700900123"))) ≡ asking
unfolding stated_length frames_of frames_within stamped word_at body_of submit_of number_of digits_of source_in deliver_of id_of mandatory_at address_at
    c_octet_at octets_at number_at tlv_at tlvs_within tlvs_of frames_after stream.placed
asking-pdus = refl

abbrev answering : ℕ → List StoredPdu
answering seq = pdu 0 1200 0x8000_0004 seq (c.SubmitAnswer (Some (codes "1"))) ∷ []

first-pdus : batch_pdus (first_batch FromCentre (response_octets 1 (codes "1"))) ≡ answering 1
unfolding stated_length frames_of frames_within stamped word_at body_of submit_of number_of digits_of source_in deliver_of id_of mandatory_at address_at
    c_octet_at octets_at number_at tlv_at tlvs_within tlvs_of frames_after stream.placed
first-pdus = refl

second-pdus : batch_pdus (first_batch FromCentre (response_octets 2 (codes "1"))) ≡ answering 2
unfolding stated_length frames_of frames_within stamped word_at body_of submit_of number_of digits_of source_in deliver_of id_of mandatory_at address_at
    c_octet_at octets_at number_at tlv_at tlvs_within tlvs_of frames_after stream.placed
second-pdus = refl

abbrev disagreeing : ℕ → List StoredPdu
disagreeing moment = pdu 0 moment 0x8000_0015 1 c.Other ∷ []

other-pdus : batch_pdus (first_batch FromCentre other_response) ≡ disagreeing 1200
unfolding stated_length frames_of frames_within stamped word_at body_of submit_of number_of digits_of source_in deliver_of id_of mandatory_at address_at
    c_octet_at octets_at number_at tlv_at tlvs_within tlvs_of frames_after stream.placed
other-pdus = refl

answered-pdus : kept_pdus answered_session.centre ≡ disagreeing 1000
unfolding stated_length frames_of frames_within stamped word_at body_of submit_of number_of digits_of source_in deliver_of id_of mandatory_at address_at
    c_octet_at octets_at number_at tlv_at tlvs_within tlvs_of
answered-pdus = refl

abbrev unread_pdus : List StoredPdu
unread_pdus = pdu 0 1200 5 90 (c.Deliver v.NoId) ∷ pdu 45 1200 5 92 c.Undecodable ∷ []

unread-pdus : batch_pdus (first_batch FromCentre unread_octets) ≡ unread_pdus
unfolding stated_length frames_of frames_within stamped word_at body_of submit_of deliver_of id_of mandatory_at address_at
    c_octet_at octets_at number_at tlv_at tlvs_within tlvs_of least_below same_letters stands_at labels_at header_of value_at
    value_of state_of_number state_of_word text_of usable_id receipted_id state_in readings.id_of state_of receipt_of reading_of frames_after
    stream.placed
unread-pdus = refl

-- ---- their tails

asking-tail : next_tail (first_batch FromClient (submit_octets 1 (codes "447700900123"))) ≡ waiting 45 []
unfolding stated_length tail_after tail_from rest_of rest_within
asking-tail = refl

first-tail : next_tail (first_batch FromCentre (response_octets 1 (codes "1"))) ≡ waiting 18 []
unfolding stated_length tail_after tail_from rest_of rest_within
first-tail = refl

second-tail : next_tail (first_batch FromCentre (response_octets 2 (codes "1"))) ≡ waiting 18 []
unfolding stated_length tail_after tail_from rest_of rest_within
second-tail = refl

other-tail : next_tail (first_batch FromCentre other_response) ≡ waiting 16 []
unfolding stated_length tail_after tail_from rest_of rest_within
other-tail = refl

unread-tail : next_tail (first_batch FromCentre unread_octets) ≡ record { offset = 65; rest = []; broken = Some 61 }
unfolding stated_length tail_after tail_from rest_of rest_within
unread-tail = refl

-- ---- their moves

pub asks : append_notes None (first_batch FromClient (submit_octets 1 (codes "447700900123")))
    ≡ PutNote (listed l.Waiting (place_at 10 FromClient 0)) ∷ []
asks =
    λ i. note_moves known_origin FromClient (kept_pdus-nil i) (kept_pdus-nil i) (asking-pdus i)
    ++ broken_moves known_origin FromClient (asking-tail i)

pub answers : append_notes (Some submitted_session) (first_batch FromCentre (response_octets 1 (codes "1")))
    ≡ TakeNote (listed l.Waiting (place_at 10 FromClient 0)) ∷ []
answers =
    λ i. note_moves known_origin FromCentre (client-is i) (kept_pdus-nil i) (first-pdus i) ++ broken_moves known_origin FromCentre (first-tail i)

pub disagrees : append_notes (Some submitted_session) (first_batch FromCentre other_response)
    ≡ TakeNote (listed l.Waiting (place_at 10 FromClient 0)) ∷ PutNote (listed l.Mismatched (place_at 10 FromClient 0)) ∷ []
disagrees =
    λ i. note_moves known_origin FromCentre (client-is i) (kept_pdus-nil i) (other-pdus i) ++ broken_moves known_origin FromCentre (other-tail i)

pub strays : append_notes (Some submitted_session) (first_batch FromCentre (response_octets 2 (codes "1")))
    ≡ PutNote (listed l.StrayAnswers (place_at 10 FromCentre 0)) ∷ []
strays =
    λ i. note_moves known_origin FromCentre (client-is i) (kept_pdus-nil i) (second-pdus i) ++ broken_moves known_origin FromCentre (second-tail i)

pub overtakes : append_notes (Some answered_session) (first_batch FromClient (submit_octets 1 (codes "447700900123")))
    ≡ TakeNote (listed l.StrayAnswers (place_at 10 FromCentre 0)) ∷ PutNote (listed l.Mismatched (place_at 10 FromClient 0)) ∷ []
overtakes =
    λ i. note_moves known_origin FromClient (kept_pdus-nil i) (answered-pdus i) (asking-pdus i)
    ++ broken_moves known_origin FromClient (asking-tail i)

pub unread : append_notes None (first_batch FromCentre unread_octets)
    ≡ PutNote (listed l.Waiting (place_at 10 FromCentre 0)) ∷ PutNote (listed l.Unreadable (place_at 10 FromCentre 0))
    ∷ PutNote (listed l.Waiting (place_at 10 FromCentre 45)) ∷ PutNote (listed l.Undecodable (place_at 10 FromCentre 45))
    ∷ PutNote (listed l.Broken (place_at 10 FromCentre 61)) ∷ []
unread =
    λ i. note_moves known_origin FromCentre (kept_pdus-nil i) (kept_pdus-nil i) (unread-pdus i)
    ++ broken_moves known_origin FromCentre (unread-tail i)
