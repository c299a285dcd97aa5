-- The session whose octets break off, as the prover reads it.
use Rattle.std.proofs.Common.{◌≡◌, ℕ, List, [], ◌∷◌, ◌++◌, Some, refl}
use Rattle.smq_frame.specs.Framing.{stated_length, frames_of, frames_within, rest_of, rest_within}
use Rattle.smq_frame.specs.Stream.{stamped, values}
use Rattle.smq_frame.specs.Tail.{TailValue, tail_of, tail_from}
use Rattle.smq_pdu.specs.Header.{word_at}
use Rattle.smq_pdu.specs.Pdu.{body_of, submit_of, deliver_of, id_of}
use Rattle.smq_pdu.specs.Readers.{mandatory_at, address_at, c_octet_at, octets_at, number_at, tlv_at, tlvs_within, tlvs_of}
use Rattle.smq_receipt.specs.Places.{least_below}
use Rattle.smq_receipt.specs.Texts.{same_letters, stands_at, labels_at, header_of, value_at, value_of}
use Rattle.smq_receipt.specs.States.{state_of_number, state_of_word}
use Rattle.smq_receipt.specs.Readings as readings
use Rattle.smq_receipt.specs.Readings.{text_of, usable_id, receipted_id, state_in, state_of, receipt_of, reading_of}
use Rattle.smq_receipt.specs.declared.reading.Reading.TheVariants as v
use Rattle.smq_present.specs.present.Content.{Content}
use Rattle.smq_present.specs.present.Content as c
use Rattle.smq_present.specs.declared.present.kept.StoredPdu.{StoredPdu}
use Rattle.smq_present.specs.known.Pairing.{broken_session, known_origin}
use Rattle.smq_present.specs.present.Kept.{kept_pdus}
use Rattle.smq_present.specs.pairing.Traffic.{notes_among, broken_notes, session_notes}

abbrev pdu : ℕ → ℕ → ℕ → ℕ → Content → StoredPdu
pdu offset moment command seq content =
    record { offset = offset; moment = moment; command = command; status = 0; seq = seq; content = content }

abbrev client_pdus : List StoredPdu
client_pdus = pdu 0 1000 4 1 c.Undecodable ∷ []

abbrev centre_pdus : List StoredPdu
centre_pdus = pdu 0 1200 5 90 (c.Deliver v.NoId) ∷ pdu 45 1200 5 91 (c.Deliver v.NoState) ∷ pdu 82 1300 5 92 c.Undecodable ∷ []

abbrev broken_tail : ℕ → ℕ → TailValue
broken_tail offset at = record { offset = offset; rest = []; broken = Some at }

client-read : kept_pdus broken_session.client ≡ client_pdus
unfolding stated_length frames_of frames_within stamped word_at body_of submit_of deliver_of id_of mandatory_at address_at
    c_octet_at octets_at number_at tlv_at tlvs_within tlvs_of
client-read = refl

centre-read : kept_pdus broken_session.centre ≡ centre_pdus
unfolding stated_length frames_of frames_within stamped word_at body_of submit_of deliver_of id_of mandatory_at address_at
    c_octet_at octets_at number_at tlv_at tlvs_within tlvs_of least_below same_letters stands_at labels_at header_of value_at
    value_of state_of_number state_of_word text_of usable_id receipted_id state_in readings.id_of state_of receipt_of reading_of
centre-read = refl

client-tail : tail_of (values broken_session.client) ≡ broken_tail 36 16
unfolding stated_length tail_from rest_of rest_within
client-tail = refl

centre-tail : tail_of (values broken_session.centre) ≡ broken_tail 102 98
unfolding stated_length tail_from rest_of rest_within
centre-tail = refl

-- its notes are those of these PDUs and tails
pub notes-read : session_notes (10, broken_session) ≡ notes_among known_origin client_pdus centre_pdus
    ++ broken_notes known_origin (broken_tail 36 16) (broken_tail 102 98)
notes-read = λ i. notes_among known_origin (client-read i) (centre-read i) ++ broken_notes known_origin (client-tail i) (centre-tail i)
