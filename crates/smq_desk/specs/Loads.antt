-- Histories in which rows were loaded, from whatever seats and in whatever order of the seats' calls.
use Rattle.std.specs.Prelude.{◌≡◌, ◌≢◌, ◌==◌, ◌&&◌, ◌+◌, not, nat_lt, nat_le, ℕ, Bool, true, All, Contains, List, ◌++◌, filter, map, length, None}
use Rattle.std.specs.List.{list_any, AllZip}
use Rattle.smq_kit.specs.declared.refusal.Refusal.TheVariants.{OutOfStep}
use Rattle.smq_frame.specs.Tail.{TailValue}
use Rattle.smq_present.specs.declared.present.edit.Edit.{Edit}
use Rattle.smq_present.specs.declared.present.edit.Edit.TheVariants.{Append}
use Rattle.smq_present.specs.declared.present.batch.PieceRow.{PieceRow}
use Rattle.smq_present.specs.present.Batch.{prepare_refusal}
use Rattle.smq_present.specs.present.Steps.{steps, is_of_session}
use Rattle.smq_desk.specs.declared.entry.Call.{Call}
use Rattle.smq_desk.specs.declared.entry.Entry.{Entry}
use Rattle.smq_desk.specs.declared.entry.Reply.{Reply}
use Rattle.smq_desk.specs.declared.entry.Reply.TheVariants.{Refused}
use Rattle.smq_desk.specs.History.{edits_of, replay_from, replay, IsLegal}
use Rattle.smq_desk.specs.Pieces.{batch_on, after_lists, HaveOwnSessions}
use Rattle.smq_desk.specs.Seats.{SeatValue, AreCallsOf}

-- whether a row has octets
abbrev pub has_octets : PieceRow → Bool
has_octets row = not (length row.octets == 0)

-- A row was loaded by an edit that was answered so: the edit appends the row's octets, prepared on some tail, and the answer isn't
-- that this tail is stale.
pub record IsLoaded (row : PieceRow) (edit : Edit) (answer : Reply) : Type 0 where
  pub tail : TailValue
  pub appends : edit ≡ Append (batch_on tail row)
  pub prepared : prepare_refusal tail row.octets ≡ None
  pub in_step : (octets : ℕ) → answer ≢ Refused (OutOfStep octets)

-- an entry loaded a row
abbrev pub IsEntryOf : PieceRow → Entry → Type 0
IsEntryOf row e = IsLoaded row e.edit e.reply

-- a seat's call loaded a row
abbrev pub IsCallOf : PieceRow → Call → Type 0
IsCallOf row c = IsLoaded row c.edit c.reply

-- whether an edit is of the session of a row of these
abbrev pub is_of_rows : List PieceRow → Edit → Bool
is_of_rows rows edit = list_any (λ row. is_of_session row.session edit) rows

-- whether an edit is of the session of a row of these lists
abbrev pub is_of_lists : List (List PieceRow) → Edit → Bool
is_of_lists lists edit = list_any (λ rows. is_of_rows rows edit) lists

-- Rows are loaded by entries: of these, those that edit a session of the rows loaded the rows that have octets, one each, in order.
abbrev pub AreLoadedBy : List Entry → List PieceRow → Type 0
AreLoadedBy entries rows = AllZip IsEntryOf (filter has_octets rows) (filter (λ e. is_of_rows rows e.edit) entries)

-- the edits of entries that are of no session of these lists
abbrev pub edits_beside : List (List PieceRow) → List Entry → List Edit
edits_beside lists entries = filter (λ edit. not (is_of_lists lists edit)) (edits_of entries)

-- What some entries leave, and what is left in the end, is as though one thread had done the lists, one after the other, after
-- all other edits of these entries.
pub record AreDoneLast (before middle after : List Entry) (lists : List (List PieceRow)) : Type 0 where
  pub left : replay (before ++ middle) ≡ after_lists (steps (replay before) (edits_beside lists middle)) lists
  pub in_the_end :
      replay (before ++ middle ++ after)
      ≡ replay_from (after_lists (steps (replay before) (edits_beside lists middle)) lists) after

-- Where no session is in two lists, and all lists are loaded by the entries from one point of a legal history to another, these
-- leave what one thread leaves.
abbrev pub LoadsAreAsOfOneThread : Type 0
LoadsAreAsOfOneThread = (before middle after : List Entry) (lists : List (List PieceRow))
    → IsLegal (before ++ middle ++ after) → HaveOwnSessions lists → All (AreLoadedBy middle) lists
    → AreDoneLast before middle after lists

-- ---- from the seats that loaded the rows

-- a seat, and the rows that were loaded from it
pub record SeatLoad : Type 0 where
  pub seat : SeatValue
  pub rows : List PieceRow

-- the calls that have numbers above the first number, up to the last
abbrev pub calls_between : ℕ → ℕ → List Call → List Call
calls_between first last calls = filter (λ c. nat_lt first c.number && nat_le c.number last) calls

-- Rows were loaded from a seat by the entries after some others: of the seat's calls that are among these entries, those that edit
-- a session of the rows loaded the rows that have octets, one each, in order; and no entry of another seat among them edits one.
pub record IsLoadedFrom (before middle : List Entry) (load : SeatLoad) : Type 0 where
  pub calls : AllZip IsCallOf (filter has_octets load.rows)
      (filter (λ c. is_of_rows load.rows c.edit) (calls_between (length before) (length before + length middle) load.seat.calls))
  pub no_other : All (λ e. is_of_rows load.rows e.edit ≡ true → e.seat ≡ load.seat.number) middle

-- the rows of each of these
abbrev pub rows_of_loads : List SeatLoad → List (List PieceRow)
rows_of_loads loads = map (λ l. l.rows) loads

-- Where the entries of a legal history are the calls of these seats, no session is in two lists of rows, and each list was loaded
-- from one of the seats by the entries from one point to another, these leave what one thread leaves.
abbrev pub SeatsLoadAsOneThread : Type 0
SeatsLoadAsOneThread = (before middle after : List Entry) (seats : List SeatValue) (loads : List SeatLoad)
    → IsLegal (before ++ middle ++ after) → AreCallsOf seats (before ++ middle ++ after)
    → All (λ l. Contains seats l.seat) loads → HaveOwnSessions (rows_of_loads loads) → All (IsLoadedFrom before middle) loads
    → AreDoneLast before middle after (rows_of_loads loads)
