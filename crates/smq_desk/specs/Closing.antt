-- When a desk doesn't close, and what is told of it.
use Rattle.std.specs.Prelude.{◌≡◌, ◌≢◌, ◌<◌, ◌⊎◌, ◌≤◌, ◌-◌, ◌==◌, ℕ, List, [], ◌∷◌, ◌++◌, if◌then◌else◌, All, filter, Option, Some, None, length, take, slice_get}
use Rattle.std.specs.List.{list_any}
use Rattle.smq_desk.specs.declared.closed.CloseFault.{CloseFault}
use Rattle.smq_desk.specs.declared.closed.CloseFault.TheVariants.{SeatsOut, Torn}
use Rattle.smq_desk.specs.declared.entry.Call.{Call}
use Rattle.smq_desk.specs.declared.entry.Entry.{Entry}
use Rattle.smq_desk.specs.Ledger.{LedgerValue}
use Rattle.smq_desk.specs.Seats.{SeatValue, calls_in, HasOneSeat}

-- A seat agrees with a history up to a number: its calls begin with its entries up to there, and all later ones have
-- greater numbers.
pub record AgreesUpTo (entries : List Entry) (number : ℕ) (seat : SeatValue) : Type 0 where
  pub later : List Call
  pub agreed : seat.calls ≡ calls_in (take number entries) seat.number ++ later
  pub greater : All (λ c. number < c.number) later

-- Seats agree with a history up to a number: each of them does, and each entry up to there is of exactly one of them.
pub record AgreeUpTo (seats : List SeatValue) (entries : List Entry) (number : ℕ) : Type 0 where
  pub each_seat : All (AgreesUpTo entries number) seats
  pub each_entry : All (HasOneSeat seats) (take number entries)

-- no call of this number stands after one of a greater number
abbrev pub NoneAfterGreater : ℕ → List Call → Type 0
NoneAfterGreater number [] = Unit {0}
NoneAfterGreater number (c ∷ calls) =
    (number < c.number → All (λ d. d.number ≢ number) calls) × NoneAfterGreater number calls

-- A seat agrees with a history at a number: of its calls, those with the number are those that its entries are, and none of
-- them stands after one of a greater number.
pub record AgreesAt (entries : List Entry) (number : ℕ) (seat : SeatValue) : Type 0 where
  pub calls : filter (λ c. c.number == number) seat.calls ≡ filter (λ c. c.number == number) (calls_in entries seat.number)
  pub in_order : NoneAfterGreater number seat.calls

-- Seats agree with a history at a number: each of them does, and the entry of the number, where there is one, is of exactly one
-- of them.
pub record AgreeAt (seats : List SeatValue) (entries : List Entry) (number : ℕ) : Type 0 where
  pub each_seat : All (AgreesAt entries number) seats
  pub entry : (e : Entry) → 0 < number → slice_get entries (number - 1) ≡ Some e → HasOneSeat seats e

-- what holds of all numbers below this one, and not of this one
pub record FailsFirstAt (Holds : ℕ → Type 0) (number : ℕ) : Type 0 where
  pub below : (n : ℕ) → n < number → Holds n
  pub here : Holds number → ⊥

-- the number of the first of these seats that has a call of this number
abbrev pub first_with : ℕ → List SeatValue → Option ℕ
first_with number [] = None
first_with number (s ∷ seats) =
    if list_any (λ c. c.number == number) s.calls then Some s.number else first_with number seats

-- The seat that a difference at this number is told of: that of the entry of this number or, where there is none, the
-- first that has a call of this number.
pub record IsToldOf (entries : List Entry) (seats : List SeatValue) (number : ℕ) (seat : ℕ) : Type 0 where
  pub entry : (e : Entry) → 0 < number → number ≤ length entries → slice_get entries (number - 1) ≡ Some e → seat ≡ e.seat
  pub call : (number ≡ 0) ⊎ (length entries < number) → first_with number seats ≡ Some seat

-- Why a ledger isn't closed for these seats: fewer come than were given out; else the first number at which they and the
-- history don't agree, with the seat that it is told of.
abbrev pub IsCloseFault : LedgerValue → List SeatValue → CloseFault → Type 0
IsCloseFault l seats SeatsOut = length seats < l.seats
IsCloseFault l seats (Torn seat number) =
    (l.seats ≤ length seats) × FailsFirstAt (AgreeUpTo seats l.entries) number × IsToldOf l.entries seats number seat
