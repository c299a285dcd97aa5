-- Two workers' rows, two schedules of their steps, and a history in which the rows were loaded, written out.
use Rattle.std.specs.Prelude.{◌≡◌, ℕ, List, [], ◌∷◌, map, Some, None}
use Rattle.smq_kit.specs.declared.place.Dir.TheVariants.{FromClient}
use Rattle.smq_kit.specs.declared.refusal.Refusal.TheVariants.{EmptyPiece, Backward, OutOfStep}
use Rattle.smq_frame.specs.Stream.{handed_in}
use Rattle.smq_frame.specs.Tail.{TailValue}
use Rattle.smq_present.specs.declared.present.edit.Edit.TheVariants.{Append, Withdraw, Advance}
use Rattle.smq_present.specs.declared.present.batch.PieceRow.{PieceRow}
use Rattle.smq_present.specs.present.Present.{empty, octets_of}
use Rattle.smq_desk.specs.declared.entry.Entry.{Entry}
use Rattle.smq_desk.specs.declared.entry.Reply.{Reply}
use Rattle.smq_desk.specs.declared.entry.Reply.TheVariants.{Done, Refused}
use Rattle.smq_desk.specs.History.{entry_of}
use Rattle.smq_desk.specs.Interleaving.{AreInterleaved}
use Rattle.smq_desk.specs.Loads.{AreLoadedBy, edits_beside, SeatLoad, calls_between, IsLoadedFrom}
use Rattle.smq_desk.specs.Pieces.{batch_on, list_replies, HaveOwnSessions}
use Rattle.smq_desk.specs.Schedules.{World, run, starting}
use Rattle.smq_desk.specs.Seats.{call_of}

-- octets from the client of a session of link 1, at a moment
abbrev pub row_of : ℕ → ℕ → List ℕ → PieceRow
row_of session moment octets = record {
  link = record { 0 = 1 };
  session = record { 0 = session };
  dir = FromClient;
  moment = moment;
  octets = octets;
}

-- one octet 0 of session 10 at 1000, and one more at 999, which is before it
abbrev pub first_rows : List PieceRow
first_rows = row_of 10 1000 (0 ∷ []) ∷ row_of 10 999 (0 ∷ []) ∷ []

-- one octet 1 of session 20 at 700, and then none
abbrev pub second_rows : List PieceRow
second_rows = row_of 20 700 (1 ∷ []) ∷ row_of 20 700 [] ∷ []

-- the rows of two workers
abbrev pub lists : List (List PieceRow)
lists = first_rows ∷ second_rows ∷ []

-- three steps for each row, those of the first worker before those of the second
abbrev pub one_by_one : List ℕ
one_by_one = 0 ∷ 0 ∷ 0 ∷ 0 ∷ 0 ∷ 0 ∷ 1 ∷ 1 ∷ 1 ∷ 1 ∷ 1 ∷ 1 ∷ []

-- the same steps in turns: the second worker commits while the first has a batch prepared
abbrev pub in_turns : List ℕ
in_turns = 1 ∷ 0 ∷ 0 ∷ 1 ∷ 1 ∷ 0 ∷ 0 ∷ 1 ∷ 1 ∷ 1 ∷ 0 ∷ 0 ∷ []

-- What a schedule of all steps leaves: no rows; of the first worker's rows the second is refused, and so of the second worker's; and
-- the two octets, each in its session.
pub record Ends (w : World) : Type 0 where
  pub rows : map (λ worker. worker.rows) w.workers ≡ [] ∷ [] ∷ []
  pub replies : map (λ worker. worker.replies) w.workers
      ≡ (None ∷ Some (Backward 1000) ∷ []) ∷ (None ∷ Some EmptyPiece ∷ []) ∷ []
  pub first : octets_of w.present 10 FromClient ≡ handed_in 1000 (0 ∷ [])
  pub second : octets_of w.present 20 FromClient ≡ handed_in 700 (1 ∷ [])

-- two lists that both have a row of session 10, of which the law says nothing
abbrev pub shared : List (List PieceRow)
shared = (row_of 10 1000 (0 ∷ []) ∷ []) ∷ (row_of 10 1000 (0 ∷ []) ∷ []) ∷ []

-- Both schedules end so, and one thread answers the rows so. Before its third step a worker commits nothing; a number that no
-- worker has is no step. Two workers with one session may be out of step, which one thread never is.
pub record KnownSchedules : Type 0 where
  pub one_by_one : Ends (run (starting empty lists) one_by_one)
  pub in_turns : Ends (run (starting empty lists) in_turns)
  pub of_one_thread : list_replies empty lists ≡ (None ∷ Some (Backward 1000) ∷ []) ∷ (None ∷ Some EmptyPiece ∷ []) ∷ []
  pub own_sessions : HaveOwnSessions lists
  pub two_steps : (run (starting empty lists) (0 ∷ 0 ∷ [])).present ≡ empty
  pub no_worker : run (starting empty lists) (2 ∷ []) ≡ starting empty lists
  pub not_own : HaveOwnSessions shared → ⊥
  pub out_of_step : map (λ worker. worker.replies) (run (starting empty shared) (0 ∷ 1 ∷ 0 ∷ 1 ∷ 0 ∷ 1 ∷ [])).workers
      ≡ (None ∷ []) ∷ (Some (OutOfStep 1) ∷ []) ∷ []
  pub in_step : list_replies empty shared ≡ (None ∷ []) ∷ (None ∷ []) ∷ []

-- ---- a history in which the rows were loaded

-- a tail of so many octets, the last of which wait for more
abbrev pub waiting : ℕ → List ℕ → TailValue
waiting offset rest = record { offset = offset; rest = rest; broken = None }

-- the call of octets of a session, on a tail
abbrev pub call : ℕ → ℕ → List ℕ → TailValue → Reply → Entry
call session moment octets tail reply = entry_of 1 (Append (batch_on tail (row_of session moment octets))) reply

abbrev pub first_call : Entry
first_call = call 10 1000 (0 ∷ []) (waiting 0 []) Done

abbrev pub refused_call : Entry
refused_call = call 10 999 (0 ∷ []) (waiting 1 (0 ∷ [])) (Refused (Backward 1000))

abbrev pub second_call : Entry
second_call = call 20 700 (1 ∷ []) (waiting 0 []) Done

abbrev pub clock_call : Entry
clock_call = entry_of 3 (Advance 5) Done

abbrev pub withdrawal_call : Entry
withdrawal_call = entry_of 3 (Withdraw (record { 0 = 10 })) Done

-- The rows are loaded by their calls, in order, among a clock's; not in another order, not where one is missing, not where one was
-- out of step, and not where another edits their session between.
pub record KnownLoads : Type 0 where
  pub first : AreLoadedBy (first_call ∷ clock_call ∷ second_call ∷ refused_call ∷ []) first_rows
  pub second : AreLoadedBy (first_call ∷ clock_call ∷ second_call ∷ refused_call ∷ []) second_rows
  pub beside : edits_beside lists (first_call ∷ clock_call ∷ second_call ∷ refused_call ∷ []) ≡ Advance 5 ∷ []
  pub other_order : AreLoadedBy (refused_call ∷ first_call ∷ []) first_rows → ⊥
  pub missing : AreLoadedBy (first_call ∷ []) first_rows → ⊥
  pub out_of_step :
      AreLoadedBy (first_call ∷ call 10 999 (0 ∷ []) (waiting 0 []) (Refused (OutOfStep 1)) ∷ []) first_rows → ⊥
  pub withdrawn : AreLoadedBy (first_call ∷ withdrawal_call ∷ refused_call ∷ []) first_rows → ⊥

-- three calls that follow one, as the seat of a number has them
abbrev pub seat_of : ℕ → SeatLoad
seat_of number = record {
  seat = record {
    number = number;
    calls = call_of 2 first_call.edit Done ∷ call_of 3 second_call.edit Done ∷ call_of 4 refused_call.edit refused_call.reply ∷ [];
  };
  rows = first_rows;
}

-- Numbers are those above the first, up to the last. The first rows were loaded from seat 1, whose entries those three are, and not
-- where they are another seat's; nor by the entries before the last of them.
pub record KnownSeatLoads : Type 0 where
  pub between : calls_between 2 3 (seat_of 1).seat.calls ≡ call_of 3 second_call.edit Done ∷ []
  pub from_its_seat : IsLoadedFrom (clock_call ∷ []) (first_call ∷ second_call ∷ refused_call ∷ []) (seat_of 1)
  pub other_seat : IsLoadedFrom (clock_call ∷ []) (first_call ∷ second_call ∷ refused_call ∷ []) (seat_of 2) → ⊥
  pub cut_short : IsLoadedFrom (clock_call ∷ []) (first_call ∷ second_call ∷ []) (seat_of 1) → ⊥

-- Edits of other sessions and of the clock may change places; those of one session may not, and nor may those of the clock.
pub record KnownInterleavings : Type 0 where
  pub others : AreInterleaved (first_call.edit ∷ Advance 5 ∷ second_call.edit ∷ []) (second_call.edit ∷ first_call.edit ∷ Advance 5 ∷ [])
  pub one_session : AreInterleaved (first_call.edit ∷ refused_call.edit ∷ []) (refused_call.edit ∷ first_call.edit ∷ []) → ⊥
  pub withdrawal : AreInterleaved (first_call.edit ∷ withdrawal_call.edit ∷ []) (withdrawal_call.edit ∷ first_call.edit ∷ []) → ⊥
  pub clock : AreInterleaved (Advance 5 ∷ Advance 6 ∷ []) (Advance 6 ∷ Advance 5 ∷ []) → ⊥
