-- Which calls of a seat a history has.
use Rattle.std.specs.Prelude.{◌≡◌, ◌<◌, ◌-◌, ℕ, List, All, Some, slice_get}
use Rattle.smq_kit.specs.declared.refusal.Refusal.{Refusal}
use Rattle.smq_kit.specs.declared.refusal.Refusal.TheVariants.{TornSeat}
use Rattle.smq_desk.specs.declared.entry.Call.{Call}
use Rattle.smq_desk.specs.declared.entry.Entry.{Entry}
use Rattle.smq_desk.specs.Closing.{FailsFirstAt}
use Rattle.smq_desk.specs.History.{entry_of}
use Rattle.smq_desk.specs.Seats.{SeatValue}

-- a call of the seat of this number is the history's entry of the call's number
abbrev pub HasCall : List Entry → ℕ → Call → Type 0
HasCall entries seat call =
    (0 < call.number) × (slice_get entries (call.number - 1) ≡ Some (entry_of seat call.edit call.reply))

-- each call of a seat is the history's entry of its number
abbrev pub HasCalls : List Entry → SeatValue → Type 0
HasCalls entries seat = All (HasCall entries seat.number) seat.calls

-- the same of the calls of one number
abbrev pub HasCallsAt : List Entry → SeatValue → ℕ → Type 0
HasCallsAt entries seat number = All (λ c. c.number ≡ number → HasCall entries seat.number c) seat.calls

-- this is the least number at which a seat has a call that isn't the history's entry of that number
abbrev pub IsTornAt : List Entry → SeatValue → ℕ → Type 0
IsTornAt entries seat number = FailsFirstAt (HasCallsAt entries seat) number

-- a refusal tells that number
abbrev pub IsTornSeat : List Entry → SeatValue → Refusal → Type 0
IsTornSeat entries seat refusal = (number : ℕ) × (refusal ≡ TornSeat number) × IsTornAt entries seat number
