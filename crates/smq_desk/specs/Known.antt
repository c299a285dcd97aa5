-- A history, its seats and their calls, written out: two clocks of seat 1, and between them one of seat 2 that is refused.
use Rattle.std.specs.Prelude.{◌≡◌, ℕ, List, [], ◌∷◌}
use Rattle.smq_kit.specs.declared.refusal.Refusal.TheVariants.{ClockBack}
use Rattle.smq_present.specs.declared.present.edit.Edit.TheVariants.{Advance}
use Rattle.smq_desk.specs.declared.entry.Call.{Call}
use Rattle.smq_desk.specs.declared.entry.Entry.{Entry}
use Rattle.smq_desk.specs.declared.entry.Reply.TheVariants.{Done, Refused}
use Rattle.smq_desk.specs.History.{entry_of, replay, IsLegal}
use Rattle.smq_desk.specs.Seats.{SeatValue, call_of, calls_in, AreCallsOf}

abbrev pub history : List Entry
history =
    entry_of 1 (Advance 5) Done ∷ entry_of 2 (Advance 4) (Refused (ClockBack 5)) ∷ entry_of 1 (Advance 6) Done ∷ []

abbrev seat_of : ℕ → List Call → SeatValue
seat_of number calls = record { number = number; calls = calls }

abbrev first_calls : List Call
first_calls = call_of 1 (Advance 5) Done ∷ call_of 3 (Advance 6) Done ∷ []

abbrev second_calls : List Call
second_calls = call_of 2 (Advance 4) (Refused (ClockBack 5)) ∷ []

abbrev pub seats : List SeatValue
seats = seat_of 1 first_calls ∷ seat_of 2 second_calls ∷ seat_of 3 [] ∷ []

-- it is legal, and not with another reply; its replay has the last clock that was taken; each seat has its own calls, and the
-- calls of the seats are the history, also where one seat has none
pub record KnownHistory : Type 0 where
  pub legal : IsLegal history
  pub another_reply : IsLegal (entry_of 1 (Advance 5) Done ∷ entry_of 2 (Advance 4) Done ∷ []) → ⊥
  pub left : (replay history).settings.clock ≡ 6
  pub first : calls_in history 1 ≡ first_calls
  pub second : calls_in history 2 ≡ second_calls
  pub none : calls_in history 3 ≡ []
  pub whole : AreCallsOf seats history
