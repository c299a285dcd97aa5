-- What known batches put into the notes and take out of them, written out by hand.
use Rattle.std.specs.Prelude.{◌≡◌, ℕ, List, [], ◌∷◌, ◌++◌, codes, Some, None}
use Rattle.smq_kit.specs.declared.place.Dir.{Dir}
use Rattle.smq_kit.specs.declared.place.Dir.TheVariants.{FromClient, FromCentre}
use Rattle.smq_frame.specs.Stream.{handed_in}
use Rattle.smq_tally.specs.declared.list.List.TheVariants as l
use Rattle.smq_tally.specs.Lists.{listed}
use Rattle.smq_present.specs.declared.present.session.Session.{Session}
use Rattle.smq_present.specs.present.Batch.{BatchValue, batch_of}
use Rattle.smq_present.specs.join.Moves.{PutNote, TakeNote}
use Rattle.smq_book.specs.edits.AppendedNotes.{append_notes}
use Rattle.smq_present.specs.known.Pairing.{place_at, pdu_octets, receipt_octets, response_octets, submit_octets}
use Rattle.smq_present.specs.known.Present.{waiting}
use Rattle.smq_book.specs.known.Reach.{submitted_session}

-- octets for a direction of session 10 of link 1 that has none
abbrev pub first_batch : Dir → List ℕ → BatchValue
first_batch dir octets = batch_of (record { 0 = 1 }) (record { 0 = 10 }) dir (waiting 0 []) 1200 octets

-- an enquire_link_resp (0x80000015) with the sequence number 1, as which no submit_sm is responded to
abbrev pub other_response : List ℕ
other_response = pdu_octets 128 21 1 []

-- session 10 of link 1, whose centre sent that and whose client nothing
abbrev pub answered_session : Session
answered_session = record { link = record { 0 = 1 }; client = []; centre = handed_in 1000 other_response }

-- a receipt without an id, a deliver_sm without a body, and a length of 131,073
abbrev pub unread_octets : List ℕ
unread_octets = receipt_octets 90 (codes "stat:DELIVRD") ++ pdu_octets 0 5 92 [] ++ 0 ∷ 2 ∷ 0 ∷ 1 ∷ []

-- What batches put into the notes and take out, worked out by hand: a submit_sm; its response, one as another command and one
-- of another sequence number; the submit_sm after such a response; and octets that can't all be read.
pub record KnownAppendNotes : Type 0 where
  pub asks :
      append_notes None (first_batch FromClient (submit_octets 1 (codes "447700900123")))
      ≡ PutNote (listed l.Waiting (place_at 10 FromClient 0)) ∷ []
  pub answers :
      append_notes (Some submitted_session) (first_batch FromCentre (response_octets 1 (codes "1")))
      ≡ TakeNote (listed l.Waiting (place_at 10 FromClient 0)) ∷ []
  pub disagrees :
      append_notes (Some submitted_session) (first_batch FromCentre other_response)
      ≡ TakeNote (listed l.Waiting (place_at 10 FromClient 0)) ∷ PutNote (listed l.Mismatched (place_at 10 FromClient 0)) ∷ []
  pub strays :
      append_notes (Some submitted_session) (first_batch FromCentre (response_octets 2 (codes "1")))
      ≡ PutNote (listed l.StrayAnswers (place_at 10 FromCentre 0)) ∷ []
  pub overtakes :
      append_notes (Some answered_session) (first_batch FromClient (submit_octets 1 (codes "447700900123")))
      ≡ TakeNote (listed l.StrayAnswers (place_at 10 FromCentre 0)) ∷ PutNote (listed l.Mismatched (place_at 10 FromClient 0)) ∷ []
  pub unread :
      append_notes None (first_batch FromCentre unread_octets)
      ≡ PutNote (listed l.Waiting (place_at 10 FromCentre 0)) ∷ PutNote (listed l.Unreadable (place_at 10 FromCentre 0))
      ∷ PutNote (listed l.Waiting (place_at 10 FromCentre 45)) ∷ PutNote (listed l.Undecodable (place_at 10 FromCentre 45))
      ∷ PutNote (listed l.Broken (place_at 10 FromCentre 61)) ∷ []
