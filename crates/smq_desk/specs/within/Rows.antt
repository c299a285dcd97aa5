-- What one row of a job comes to.
use Rattle.std.specs.Prelude.{◌≡◌, ◌⊎◌, ◌++◌, ℕ, Bool, true, false, Option, option_to_list}
use Rattle.smq_kit.specs.declared.refusal.Refusal.{Refusal}
use Rattle.smq_kit.specs.declared.refusal.Refusal.TheVariants.{HistoryFull, Memory}
use Rattle.smq_present.specs.declared.present.edit.Edit.{Edit}
use Rattle.smq_present.specs.declared.present.batch.PieceRow.{PieceRow}
use Rattle.smq_desk.specs.declared.entry.Call.{Call}
use Rattle.smq_desk.specs.declared.entry.Reply.{Reply}
use Rattle.smq_desk.specs.declared.job.RowEnd.{RowEnd}
use Rattle.smq_desk.specs.declared.job.RowEnd.TheVariants.{Done, Refused, Stopped}
use Rattle.smq_desk.specs.Jobs.{IsFate, is_refusal, was_refused}
use Rattle.smq_desk.specs.Seats.{SeatValue, call_of, with_call}

-- why a row stops its job: memory was wanting, or the history is full
abbrev pub StopsRow : Refusal → Type 0
StopsRow refusal = (refusal ≡ Memory) ⊎ (refusal ≡ HistoryFull)

-- an edit became a call of a seat, which was refused or not
pub record Calls (edit : Edit) (old new : SeatValue) (refused : Bool) : Type 0 where
  pub number : ℕ
  pub reply : Reply
  pub added : new ≡ with_call old (call_of number edit reply)
  pub is : is_refusal reply ≡ refused

-- what a commit of an edit comes to: a call; or the seat stays, for a reason that stops a job
abbrev pub Commits : Edit → SeatValue → SeatValue → RowEnd → Type 0
Commits edit old new Done = Calls edit old new false
Commits edit old new Refused = Calls edit old new true
Commits edit old new (Stopped why) = (new ≡ old) × StopsRow why

-- a row is done, and was refused or not: it became a call of a seat, or wasn't prepared
pub record Comes (row : PieceRow) (old new : SeatValue) (refused : Bool) : Type 0 where
  pub fate : Option Call
  pub is : IsFate row fate
  pub added : new ≡ record old { calls = old.calls ++ option_to_list fate }
  pub counts : was_refused fate ≡ refused

-- what a row comes to: it is done; or the seat stays, for a reason that stops the job
abbrev pub Ends : PieceRow → SeatValue → SeatValue → RowEnd → Type 0
Ends row old new Done = Comes row old new false
Ends row old new Refused = Comes row old new true
Ends row old new (Stopped why) = (new ≡ old) × StopsRow why
