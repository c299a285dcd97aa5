-- Faults, the play of rows and checks, at known values.
use Rattle.std.specs.Prelude.{◌≡◌, ℕ, true, false, List, [], ◌∷◌, ◌++◌, codes, take, Option, None, Some}
use Rattle.smq_kit.specs.declared.message_id.Form.{Form}
use Rattle.smq_kit.specs.declared.message_id.Form.TheVariants.{Decimal, Hexadecimal}
use Rattle.smq_kit.specs.declared.place.Dir.{Dir}
use Rattle.smq_kit.specs.declared.place.Dir.TheVariants.{FromClient, FromCentre}
use Rattle.smq_kit.specs.declared.refusal.Refusal.TheVariants as refusal
use Rattle.smq_present.specs.declared.present.edit.Edit.{Edit}
use Rattle.smq_present.specs.declared.present.edit.Edit.TheVariants.{Advance, Append, SetForm}
use Rattle.smq_present.specs.present.Batch.{prepare_refusal}
use Rattle.smq_present.specs.present.Present.{PresentValue, empty, tail_in}
use Rattle.smq_present.specs.declared.present.batch.PieceRow.{PieceRow}
use Rattle.smq_present.specs.whole.Scratch.{scratch}
use Rattle.smq_desk.specs.declared.entry.Call.{Call}
use Rattle.smq_desk.specs.declared.entry.Entry.{Entry}
use Rattle.smq_desk.specs.declared.entry.Reply.TheVariants.{Done, Refused}
use Rattle.smq_desk.specs.History.{entry_of}
use Rattle.smq_desk.specs.Seats.{SeatValue, call_of, AreCallsOf}
use Rattle.smq_load.specs.declared.record.Row.{Row}
use Rattle.smq_load.specs.declared.record.Row.TheVariants.{Piece, Plain}
use Rattle.smq_load.specs.Script.{IsFirstBad, IsScript}
use Rattle.smq_load.specs.Settings.{settings_of}
use Rattle.smq_report.specs.Report.{report_text}
use Rattle.smq_report.specs.declared.pick.Query.{Query}
use Rattle.smq_engine.specs.declared.run_fault.RunFault.TheVariants as run_fault
use Rattle.smq_engine.specs.declared.workers.TheConstants.{WORKERS}
use Rattle.smq_engine.specs.Faults.{fault_text}
use Rattle.smq_engine.specs.IsCheck.{Compares, EndsCheck, check_text}
use Rattle.smq_report.specs.declared.pick.Output.TheVariants.{Report}
use Rattle.smq_engine.specs.declared.runs.Limit.TheVariants.{Script}
use Rattle.smq_engine.specs.IsRun.{EndsRun, HasBegun, StopsRun, TellsRead, output_text}
use Rattle.smq_engine.specs.Play.{after_rows, edit_of, edits_from, edits_of, present_of, refusal_of, refused_of, refused_rows, unprepared}
use Rattle.smq_engine.specs.Workers.{HaveMadeRows, pieces_of_worker, plain_edits, worker_of}
use Rattle.smq_engine.specs.within.Jobs.{desk_fault}

-- what is told of each fault
pub record KnowsFaults : Type 0 where
  pub bad_row : fault_text (run_fault.BadRow 1000001) ≡ codes "row 1000001: bad row"
  pub bad_settings : fault_text run_fault.BadSettings ≡ codes "settings: bad settings"
  pub read : fault_text run_fault.Read ≡ codes "read failed"
  pub write : fault_text run_fault.Write ≡ codes "write failed"
  pub memory : fault_text run_fault.Memory ≡ codes "out of memory"
  pub no_thread : fault_text run_fault.NoThread ≡ codes "no thread"
  pub desk : fault_text run_fault.Desk ≡ codes "desk refused"

-- a piece of session 10
abbrev pub piece_of : ℕ → Dir → ℕ → List ℕ → Row
piece_of link dir moment octets =
    Piece (record {
      link = record { 0 = link };
      session = record { 0 = 10 };
      dir = dir;
      moment = moment;
      octets = octets;
    })

-- the edit that puts a piece of session 10 after the tail of a direction
abbrev pub append_of : PresentValue → Dir → ℕ → Dir → ℕ → List ℕ → Edit
append_of p tail_of link dir moment octets = Append (record {
  link = record { 0 = link };
  session = record { 0 = 10 };
  dir = dir;
  tail = tail_in p 10 tail_of;
  moment = moment;
  octets = octets;
})

-- a clock, a piece of no octets, an earlier clock and a later one
abbrev pub some_rows : List Row
some_rows = Plain (Advance 5) ∷ piece_of 1 FromClient 1000 [] ∷ Plain (Advance 4) ∷ Plain (Advance 6) ∷ []

-- the row that sets both forms of link 1
abbrev pub form_row : Form → Row
form_row form = Plain (SetForm (record { 0 = 1 }) form form)

-- The refused ones of these rows, with their numbers, the edits that they come to, and the clock that they leave: none stops
-- the rest. A piece of no octets is refused for that whatever is present, so before its link and its moment, and each piece
-- is prepared on the tail of its own direction. The rows of settings are played before those of a script, whose refused rows
-- have their numbers in it.
pub record KnowsPlay : Type 0 where
  pub refused :
      refused_rows empty some_rows
      ≡ (2, refusal.EmptyPiece) ∷ (3, refusal.ClockBack 5) ∷ []
  pub edits :
      edits_from empty some_rows
      ≡ Advance 5 ∷ Advance 4 ∷ Advance 6 ∷ []
  pub left : (after_rows empty some_rows).settings.clock ≡ 6
  pub no_octets : (p : PresentValue) (link moment : ℕ) (dir : Dir)
      → refusal_of p (piece_of link dir moment []) ≡ Some refusal.EmptyPiece
  pub of_client : (p : PresentValue)
      → edit_of p (piece_of 1 FromClient 1000 (7 ∷ []))
      ≡ append_of p FromClient 1 FromClient 1000 (7 ∷ [])
  pub of_centre : (p : PresentValue)
      → edit_of p (piece_of 2 FromCentre 2000 (8 ∷ []))
      ≡ append_of p FromCentre 2 FromCentre 2000 (8 ∷ [])
  pub client_checked : (p : PresentValue)
      → unprepared p (piece_of 1 FromClient 1000 (7 ∷ []))
      ≡ prepare_refusal (tail_in p 10 FromClient) (7 ∷ [])
  pub centre_checked : (p : PresentValue)
      → unprepared p (piece_of 1 FromCentre 1000 (7 ∷ []))
      ≡ prepare_refusal (tail_in p 10 FromCentre) (7 ∷ [])
  pub settings_first :
      edits_of (form_row Decimal ∷ Plain (Advance 5) ∷ []) (form_row Hexadecimal ∷ Plain (Advance 6) ∷ [])
      ≡ SetForm (record { 0 = 1 }) Decimal Decimal ∷ Advance 5
      ∷ SetForm (record { 0 = 1 }) Hexadecimal Hexadecimal ∷ Advance 6 ∷ []
  pub settings_kept :
      (present_of (Plain (Advance 5) ∷ []) (Plain (Advance 6) ∷ [])).settings.clock ≡ 6
  pub refused_after_settings :
      refused_of (Plain (Advance 5) ∷ []) (Plain (Advance 4) ∷ [])
      ≡ (1, refusal.ClockBack 5) ∷ []

-- ---- runs

-- what is asked of the rows of settings, which set forms, and of those of a script, which make the clock 5
abbrev pub known_report : Query → List ℕ
known_report query = report_text query.pick query.format (scratch (present_of (form_row Decimal ∷ []) (Plain (Advance 5) ∷ [])))

-- What a run that stops wrote behind an octet 7: two octets of its report, or nothing, and never less. Where settings say no rows, or
-- a text isn't a script, no report is begun, and nothing is written.
pub record KnowsRuns : Type 0 where
  pub begins : (query : Query) (settings text : List ℕ) → settings_of settings ≡ Some (form_row Decimal ∷ [])
      → IsScript text (Plain (Advance 5) ∷ [])
      → HasBegun Script (output_text (Report query)) settings (Some (7 ∷ [])) (Some (7 ∷ take 2 (known_report query))) text
  pub loses : (query : Query) (settings text : List ℕ) → HasBegun Script (output_text (Report query)) settings (Some (7 ∷ [])) (Some []) text → ⊥
  pub bad_settings : (query : Query) (settings text : List ℕ) (old new : Option (List ℕ)) → settings_of settings ≡ None
      → HasBegun Script (output_text (Report query)) settings old new text → ⊥
  pub no_script : (query : Query) (settings text : List ℕ) (old new : Option (List ℕ))
      → ((rows : List Row) → IsScript text rows → ⊥) → HasBegun Script (output_text (Report query)) settings old new text → ⊥
  pub stops_before : (query : Query) (settings text : List ℕ) → StopsRun Script (output_text (Report query)) settings (Some (7 ∷ [])) (Some (7 ∷ [])) text
  pub stops_within : (query : Query) (settings text : List ℕ) → settings_of settings ≡ Some (form_row Decimal ∷ [])
      → IsScript text (Plain (Advance 5) ∷ [])
      → StopsRun Script (output_text (Report query)) settings (Some (7 ∷ [])) (Some (7 ∷ take 2 (known_report query))) text
  pub stops_with_less : (query : Query) (settings text : List ℕ) → StopsRun Script (output_text (Report query)) settings (Some (7 ∷ [])) (Some []) text → ⊥
  pub stops_at_bad_settings : (query : Query) (settings text : List ℕ) → settings_of settings ≡ None
      → StopsRun Script (output_text (Report query)) settings (Some (7 ∷ [])) (Some (7 ∷ 8 ∷ [])) text → ⊥

-- what a run and a check that end by a fault tell of settings and text, and what they left written
pub record KnowsFailures : Type 0 where
  pub row : (settings text : List ℕ) (left : Option (List ℕ)) → IsFirstBad text 2 → TellsRead Script (run_fault.BadRow 2) settings (Some text) left
  pub other_row : (settings text : List ℕ) (left : Option (List ℕ)) → (IsFirstBad text 2 → ⊥)
      → TellsRead Script (run_fault.BadRow 2) settings (Some text) left → ⊥
  pub settings : (settings : List ℕ) → settings_of settings ≡ None
      → TellsRead Script run_fault.BadSettings settings (Some (7 ∷ 8 ∷ [])) (Some (7 ∷ 8 ∷ []))
  pub good_settings : (settings : List ℕ) (rows : List Row) (text left : Option (List ℕ)) → settings_of settings ≡ Some rows
      → TellsRead Script run_fault.BadSettings settings text left → ⊥
  pub settings_after_read : (settings : List ℕ) → TellsRead Script run_fault.BadSettings settings (Some (7 ∷ 8 ∷ [])) (Some (8 ∷ [])) → ⊥
  pub read : (query : Query) (settings text : List ℕ) (left : Option (List ℕ))
      → EndsRun Script (output_text (Report query)) run_fault.Read settings (Some text) left (Some (7 ∷ [])) (Some (7 ∷ []))
  pub read_written : (query : Query) (settings : List ℕ) (text left : Option (List ℕ))
      → EndsRun Script (output_text (Report query)) run_fault.Read settings text left (Some (7 ∷ [])) (Some (7 ∷ 8 ∷ [])) → ⊥
  pub write : (query : Query) (settings text : List ℕ) (left : Option (List ℕ)) → settings_of settings ≡ Some (form_row Decimal ∷ [])
      → IsScript text (Plain (Advance 5) ∷ [])
      → EndsRun Script (output_text (Report query)) run_fault.Write settings (Some text) left (Some (7 ∷ [])) (Some (7 ∷ take 2 (known_report query)))
  pub write_unread : (query : Query) (settings text : List ℕ) (left old new : Option (List ℕ)) → ((rows : List Row) → IsScript text rows → ⊥)
      → EndsRun Script (output_text (Report query)) run_fault.Write settings (Some text) left old new → ⊥
  pub memory_lost : (query : Query) (settings text : List ℕ) (left : Option (List ℕ))
      → EndsRun Script (output_text (Report query)) run_fault.Memory settings (Some text) left (Some (7 ∷ [])) (Some []) → ⊥
  pub check_read : (settings text : List ℕ) (left : Option (List ℕ))
      → EndsCheck run_fault.Read settings (Some text) left (Some (7 ∷ [])) (Some (7 ∷ []))
  pub check_written : (settings : List ℕ) (text left : Option (List ℕ))
      → EndsCheck run_fault.Memory settings text left (Some (7 ∷ [])) (Some (7 ∷ 8 ∷ [])) → ⊥
  pub check_write_unread : (settings text : List ℕ) (left old new : Option (List ℕ)) → ((rows : List Row) → IsScript text rows → ⊥)
      → EndsCheck run_fault.Write settings (Some text) left old new → ⊥

-- ---- checks

-- a piece of a session of link 1
abbrev pub client_piece : ℕ → ℕ → List ℕ → PieceRow
client_piece session moment octets = record {
  link = record { 0 = 1 };
  session = record { 0 = session };
  dir = FromClient;
  moment = moment;
  octets = octets;
}

-- the edit that puts it after so many octets, none of which waits
abbrev pub put_after : ℕ → PieceRow → Edit
put_after offset piece = Append (record {
  link = piece.link;
  session = piece.session;
  dir = piece.dir;
  tail = record { offset = offset; rest = []; broken = None };
  moment = piece.moment;
  octets = piece.octets;
})

abbrev pub one : PieceRow
one = client_piece 10 1000 (7 ∷ [])

abbrev pub no_octets : PieceRow
no_octets = client_piece 11 1000 []

abbrev pub two : PieceRow
two = client_piece 11 1100 (8 ∷ [])

abbrev pub three : PieceRow
three = client_piece 18 1200 (9 ∷ [])

-- A clock of settings; and a script of pieces of three sessions, one piece without octets, with a clock between them. Sessions 10 and
-- 18 have one worker.
abbrev pub checked_settings : List Row
checked_settings = Plain (Advance 5) ∷ []

abbrev pub checked_rows : List Row
checked_rows = Piece one ∷ Piece no_octets ∷ Plain (Advance 6) ∷ Piece two ∷ Piece three ∷ []

-- a history of them, in which the pieces after the clock were made in another order than they stand
abbrev pub checked_history : List Entry
checked_history =
    entry_of 1 (Advance 5) Done ∷ entry_of 4 (put_after 0 one) Done ∷ entry_of 1 (Advance 6) Done
    ∷ entry_of 4 (put_after 0 three) Done ∷ entry_of 5 (put_after 0 two) Done ∷ []

abbrev pub seat_of : ℕ → List Call → SeatValue
seat_of number calls = record { number = number; calls = calls }

abbrev pub first_calls : List Call
first_calls = call_of 1 (Advance 5) Done ∷ call_of 3 (Advance 6) Done ∷ []

-- its seats, where the third worker has these calls
abbrev pub seats_with : List Call → List SeatValue
seats_with calls =
    seat_of 1 first_calls ∷ seat_of 2 [] ∷ seat_of 3 [] ∷ seat_of 4 calls ∷ seat_of 5 (call_of 5 (put_after 0 two) Done ∷ [])
    ∷ seat_of 6 [] ∷ seat_of 7 [] ∷ seat_of 8 [] ∷ seat_of 9 [] ∷ []

-- its seats
abbrev pub checked_seats : List SeatValue
checked_seats = seats_with (call_of 2 (put_after 0 one) Done ∷ call_of 4 (put_after 0 three) Done ∷ [])

-- seats whose third worker made its pieces in the other order
abbrev pub turned_seats : List SeatValue
turned_seats = seats_with (call_of 2 (put_after 0 three) Done ∷ call_of 4 (put_after 0 one) Done ∷ [])

-- three clocks of settings, of which the second is refused
abbrev pub clock_rows : List Row
clock_rows = Plain (Advance 3) ∷ Plain (Advance 2) ∷ Plain (Advance 4) ∷ []

-- the history of these and of the rows above, of which the piece of no octets has no entry
abbrev pub clock_entries : List Entry
clock_entries =
    entry_of 1 (Advance 3) Done ∷ entry_of 1 (Advance 2) (Refused (refusal.ClockBack 3)) ∷ entry_of 1 (Advance 4) Done
    ∷ entry_of 1 (Advance 5) Done ∷ entry_of 1 (Advance 4) (Refused (refusal.ClockBack 5)) ∷ entry_of 1 (Advance 6) Done ∷ []

-- What is written of checks, and the faults of a desk; how many workers there are, and which pieces they have; the plain edits; that
-- the history is the calls of its seats, and these have made the rows, not those of the script alone, and not in another order of
-- one worker's pieces. A check of clocks tells the entries of settings and script, and the refused rows of the script alone.
pub record KnowsChecks : Type 0 where
  pub same : check_text (record { same = true; entries = 67; refused = 0 }) ≡ codes "same entries 67 refused 0" ++ 10 ∷ []
  pub different : check_text (record { same = false; entries = 0; refused = 1 }) ≡ codes "different entries 0 refused 1" ++ 10 ∷ []
  pub memory : desk_fault refusal.Memory ≡ run_fault.Memory
  pub no_thread : desk_fault refusal.NoThread ≡ run_fault.NoThread
  pub full : desk_fault refusal.HistoryFull ≡ run_fault.Desk
  pub no_seat : desk_fault refusal.NoSeat ≡ run_fault.Desk
  pub workers : WORKERS ≡ 8
  pub worker : worker_of (record { 0 = 18446744073709551615 }) ≡ 7
  pub of_first : pieces_of_worker 0 checked_rows ≡ []
  pub of_third : pieces_of_worker 2 checked_rows ≡ one ∷ three ∷ []
  pub of_fourth : pieces_of_worker 3 checked_rows ≡ no_octets ∷ two ∷ []
  pub plain : plain_edits (checked_settings ++ checked_rows) ≡ Advance 5 ∷ Advance 6 ∷ []
  pub calls : AreCallsOf checked_seats checked_history
  pub made : HaveMadeRows (checked_settings ++ checked_rows) checked_seats
  pub all : HaveMadeRows checked_rows checked_seats → ⊥
  pub turned : HaveMadeRows (checked_settings ++ checked_rows) turned_seats → ⊥
  pub compares : Compares clock_rows some_rows (record { same = true; entries = 6; refused = 2 })
