-- What a contract sees of a seat, and how seats and a history belong together.
use Rattle.std.specs.Prelude.{◌≡◌, ◌+◌, ◌==◌, ℕ, Bool, List, [], ◌∷◌, ◌++◌, ◌||◌, if◌then◌else◌, count_by, All, MatchBool}
use Rattle.smq_kit.specs.declared.refusal.Refusal.{Refusal}
use Rattle.smq_kit.specs.declared.refusal.Refusal.TheVariants.{HistoryFull, Memory}
use Rattle.smq_kit.specs.Refusals.{number_of}
use Rattle.smq_present.specs.declared.present.edit.Edit.{Edit}
use Rattle.smq_desk.specs.declared.entry.Call.{Call}
use Rattle.smq_desk.specs.declared.entry.Entry.{Entry}
use Rattle.smq_desk.specs.declared.entry.Reply.{Reply}
use Rattle.smq_desk.specs.declared.entry.Reply.TheVariants.{Refused}

-- a seat: its number, and its calls in the order in which they were made
pub record SeatValue : Type 0 where
  pub number : ℕ
  pub calls : List Call

-- the call of these parts
abbrev pub call_of : ℕ → Edit → Reply → Call
call_of number edit answer = record { number = number; edit = edit; reply = answer }

-- a seat with this call after its own
abbrev pub with_call : SeatValue → Call → SeatValue
with_call seat call = record seat { calls = seat.calls ++ call ∷ [] }

-- whether a refusal is the desk's own: its history is full, or memory was wanting. No book replies so.
abbrev pub is_own : Refusal → Bool
is_own refusal = number_of refusal == number_of HistoryFull || number_of refusal == number_of Memory

-- What a refusal leaves of a seat. The desk's own leaves it as it was; one by the book is a call, too, with that reply.
abbrev pub IsRefused : SeatValue → SeatValue → Edit → Refusal → Type 0
IsRefused old new edit refusal =
    MatchBool (is_own refusal) (new ≡ old)
    ((number : ℕ) × (new ≡ with_call old (call_of number edit (Refused refusal))))

-- the calls that the entries of a seat are, where entries are numbered from this number on
abbrev pub calls_from : ℕ → ℕ → List Entry → List Call
calls_from first seat [] = []
calls_from first seat (e ∷ entries) =
    if e.seat == seat
    then call_of first e.edit e.reply ∷ calls_from (first + 1) seat entries
    else calls_from (first + 1) seat entries

-- the calls that a history has of a seat, in order
abbrev pub calls_in : List Entry → ℕ → List Call
calls_in entries seat = calls_from 1 seat entries

-- a seat's calls are the history's entries of that seat: each once, at its number and in its order
abbrev pub HasItsCalls : List Entry → SeatValue → Type 0
HasItsCalls entries seat = seat.calls ≡ calls_in entries seat.number

-- how many of these seats have this number
unfoldable pub holders : List SeatValue → ℕ → ℕ
holders seats number = count_by (λ s. s.number == number) seats

-- an entry is of exactly one of these seats
abbrev pub HasOneSeat : List SeatValue → Entry → Type 0
HasOneSeat seats e = holders seats e.seat ≡ 1

-- The entries of a history are the calls of these seats: each seat's calls are its entries, in order and at their
-- numbers, and each entry is of exactly one of the seats.
pub record AreCallsOf (seats : List SeatValue) (entries : List Entry) : Type 0 where
  pub each_seat : All (HasItsCalls entries) seats
  pub each_entry : All (HasOneSeat seats) entries
