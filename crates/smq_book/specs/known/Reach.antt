-- How much edits reach, worked out by hand.
use Rattle.std.specs.Prelude.{◌≡◌, ℕ, [], ◌∷◌, ◌++◌, codes}
use Rattle.std.specs.FinMap as map
use Rattle.smq_kit.specs.declared.message_id.Form.TheVariants.{Decimal}
use Rattle.smq_kit.specs.declared.place.Dir.TheVariants.{FromClient, FromCentre}
use Rattle.smq_frame.specs.Stream.{handed_in}
use Rattle.smq_present.specs.declared.present.edit.Edit.{Edit}
use Rattle.smq_present.specs.declared.present.edit.Edit.TheVariants.{Append, Withdraw, SetForm, SetWindow, AddRoute, EndRoute, CorrectRoute, Advance}
use Rattle.smq_present.specs.declared.present.session.Session.{Session}
use Rattle.smq_present.specs.present.Batch.{batch_of}
use Rattle.smq_present.specs.present.Present.{PresentValue, empty}
use Rattle.smq_present.specs.present.Settings.{with_clock}
use Rattle.smq_present.specs.present.Steps.{step}
use Rattle.smq_present.specs.pairing.Traffic.{traffic_of}
use Rattle.smq_book.specs.edits.Reach.{link_places, reach}
use Rattle.smq_present.specs.known.Present.{waiting}
use Rattle.smq_present.specs.known.Pairing.{place_at, submit_octets, response_octets, receipt_octets}

-- session 10 of link 1, with one message at 1000, and with its response at 1200, which gives the id `1`
abbrev pub submitted_session : Session
submitted_session = record {
  link = record { 0 = 1 };
  client = handed_in 1000 (submit_octets 1 (codes "447700900123"));
  centre = [];
}

abbrev pub accepted_session : Session
accepted_session = record submitted_session { centre = handed_in 1200 (response_octets 1 (codes "1")) }

-- the books of these
abbrev pub submitted_book : PresentValue
submitted_book = record empty { sessions = map.insert map.empty 10 submitted_session }

abbrev pub accepted_book : PresentValue
accepted_book = record empty { sessions = map.insert map.empty 10 accepted_session }

-- session 20 of link 1, whose centre sent two receipts of the id `1`, and the book of it and of the latter
abbrev pub receipts_session : Session
receipts_session = record {
  link = record { 0 = 1 };
  client = [];
  centre = handed_in 1300 (receipt_octets 90 (codes "id:1 stat:DELIVRD") ++ receipt_octets 91 (codes "id:1 stat:DELIVRD"));
}

abbrev pub decided_book : PresentValue
decided_book = record empty { sessions = map.from_entries ((10, accepted_session) ∷ (20, receipts_session) ∷ []) }

-- the second at a clock
abbrev pub accepted_at : ℕ → PresentValue
accepted_at clock = record accepted_book { settings = with_clock accepted_book.settings clock }

-- the edits that lead from the empty book to the first, and from that to the second
abbrev pub submitting : Edit
submitting =
    Append (batch_of (record { 0 = 1 }) (record { 0 = 10 }) FromClient (waiting 0 []) 1000
    (submit_octets 1 (codes "447700900123")))

abbrev pub accepting : Edit
accepting =
    Append (batch_of (record { 0 = 1 }) (record { 0 = 10 }) FromCentre (waiting 0 []) 1200
    (response_octets 1 (codes "1")))

-- How much edits reach, worked out by hand: a message that isn't accepted weighs 1, one that is alone with its key 2, and
-- so does its response. A window of link 1 reaches it once it is accepted, whether its window has ended or not. Its number,
-- 447700900123, is begun by 44 and not by 33; nothing is of link 2. Where its key has two receipts in another session, each of the
-- three and the response weigh 4; forms of its link reach the three as they were and as they are left.
pub record KnownReach : Type 0 where
  pub submitted : step empty submitting ≡ submitted_book
  pub submits : reach empty submitting ≡ 1
  pub accepted : step submitted_book accepting ≡ accepted_book
  pub accepts : reach submitted_book accepting ≡ 2
  pub withdraws : reach accepted_book (Withdraw (record { 0 = 10 })) ≡ 4
  pub before_the_end : reach accepted_book (Advance 172800999) ≡ 0
  pub at_the_end : reach accepted_book (Advance 172801000) ≡ 1
  pub windows_of_its_link : reach accepted_book (SetWindow (record { 0 = 1 }) 1000) ≡ 1
  pub windows_of_no_link : reach accepted_book (SetWindow (record { 0 = 2 }) 1000) ≡ 0
  pub windows_before_its_response : reach submitted_book (SetWindow (record { 0 = 1 }) 1000) ≡ 0
  pub windows_at_the_end : reach (accepted_at 172801000) (SetWindow (record { 0 = 1 }) 1000) ≡ 1
  pub adds_under_its_number : reach accepted_book (AddRoute (codes "44") 0 (record { 0 = 7 }) (codes "23410")) ≡ 1
  pub adds_elsewhere : reach accepted_book (AddRoute (codes "33") 0 (record { 0 = 7 }) (codes "23410")) ≡ 0
  pub ends_under_its_number : reach accepted_book (EndRoute (codes "44") 0 5) ≡ 1
  pub ends_elsewhere : reach accepted_book (EndRoute (codes "33") 0 5) ≡ 0
  pub corrects_under_its_number : reach accepted_book (CorrectRoute (codes "44") 0 (record { 0 = 7 }) (codes "23410")) ≡ 1
  pub corrects_elsewhere : reach accepted_book (CorrectRoute (codes "33") 0 (record { 0 = 7 }) (codes "23410")) ≡ 0
  pub of_its_link : link_places (record { 0 = 1 }) (traffic_of accepted_book.sessions) ≡ place_at 10 FromClient 0 ∷ []
  pub withdraws_of_three : reach decided_book (Withdraw (record { 0 = 10 })) ≡ 8
  pub withdraws_two_of_three : reach decided_book (Withdraw (record { 0 = 20 })) ≡ 8
  pub forms_of_its_link : reach decided_book (SetForm (record { 0 = 1 }) Decimal Decimal) ≡ 24
  pub forms_of_no_link : reach decided_book (SetForm (record { 0 = 2 }) Decimal Decimal) ≡ 0
  pub of_no_link : link_places (record { 0 = 2 }) (traffic_of accepted_book.sessions) ≡ []
