-- Ledgers of the history of Known, the calls of its seats, and what closes them, written out.
use Rattle.std.specs.Prelude.{◌≡◌, ℕ, List, [], ◌∷◌, take}
use Rattle.smq_kit.specs.declared.refusal.Refusal.TheVariants.{ClockBack}
use Rattle.smq_present.specs.declared.present.edit.Edit.TheVariants.{Advance}
use Rattle.smq_desk.specs.declared.closed.CloseFault.TheVariants.{SeatsOut, Torn}
use Rattle.smq_desk.specs.declared.entry.Call.{Call}
use Rattle.smq_desk.specs.declared.entry.Entry.{Entry}
use Rattle.smq_desk.specs.declared.entry.Reply.TheVariants.{Done, Refused}
use Rattle.smq_desk.specs.Closing.{IsCloseFault}
use Rattle.smq_desk.specs.Known.{history, seats}
use Rattle.smq_desk.specs.Ledger.{LedgerValue, Adds, opened}
use Rattle.smq_desk.specs.Publishing.{HasCalls}
use Rattle.smq_desk.specs.Seats.{SeatValue, call_of}

-- a ledger of these entries, for which three seats were given out
abbrev pub ledger_with : List Entry → LedgerValue
ledger_with entries = record { limit = 9; seats = 3; entries = entries; board = [] }

-- a seat with these calls
abbrev pub seat_with : ℕ → List Call → SeatValue
seat_with number calls = record { number = number; calls = calls }

-- the calls of the first seat, and that of the second
abbrev pub calls_of_first : List Call
calls_of_first = call_of 1 (Advance 5) Done ∷ call_of 3 (Advance 6) Done ∷ []

abbrev pub calls_of_second : List Call
calls_of_second = call_of 2 (Advance 4) (Refused (ClockBack 5)) ∷ []

-- the seats, where the first has lost its calls
abbrev pub torn_seats : List SeatValue
torn_seats = seat_with 1 [] ∷ seat_with 2 calls_of_second ∷ seat_with 3 [] ∷ []

-- a call for entry 1 with another reply
abbrev pub replied_otherwise : Call
replied_otherwise = call_of 1 (Advance 5) (Refused (ClockBack 6))

-- the call for entry 1 with the number 0
abbrev pub numbered_0 : Call
numbered_0 = call_of 0 (Advance 5) Done

-- a new ledger has neither seats nor entries; entries are numbered from 1
pub record KnownLedgers : Type 0 where
  pub opens : opened 9 ≡ record { limit = 9; seats = 0; entries = []; board = [] }
  pub adds_first : Adds (ledger_with []) (ledger_with (take 1 history)) 1 (Advance 5) 1 Done
  pub adds_second : Adds (ledger_with (take 1 history)) (ledger_with (take 2 history)) 2 (Advance 4) 2 (Refused (ClockBack 5))

-- the history has a seat's calls where each is its entry of that number and seat, that of entry 1 too
pub record KnownCalls : Type 0 where
  pub own : HasCalls history (seat_with 1 calls_of_first)
  pub with_another_reply : HasCalls history (seat_with 1 (replied_otherwise ∷ [])) → ⊥
  pub below_1 : HasCalls history (seat_with 1 (numbered_0 ∷ [])) → ⊥
  pub of_another_seat : HasCalls history (seat_with 2 calls_of_first) → ⊥

-- fewer seats than were given out are told as such, and as many aren't; where one has lost its calls, the first of them is told
pub record KnownCloses : Type 0 where
  pub seats_out : IsCloseFault (ledger_with history) (take 2 seats) SeatsOut
  pub all_seats : IsCloseFault (ledger_with history) seats SeatsOut → ⊥
  pub torn : IsCloseFault (ledger_with history) torn_seats (Torn 1 1)
