-- Jobs that workers do at a desk, and what became of their rows.
use Rattle.std.specs.Prelude.{◌≡◌, ◌≤◌, ◌⊎◌, ◌↔◌, ℕ, Bool, true, false, List, ◌++◌, Option, Some, None, IfSome, length, take, flat_map, option_to_list, count_by}
use Rattle.std.specs.List.{AllZip}
use Rattle.smq_kit.specs.declared.refusal.Refusal.{Refusal}
use Rattle.smq_kit.specs.declared.refusal.Refusal.TheVariants.{HistoryFull, Memory, NoThread}
use Rattle.smq_frame.specs.Tail.{TailValue}
use Rattle.smq_present.specs.declared.present.edit.Edit.{Edit}
use Rattle.smq_present.specs.declared.present.edit.Edit.TheVariants.{Append, Withdraw, SetForm, SetWindow, AddRoute, EndRoute, CorrectRoute, Advance}
use Rattle.smq_present.specs.declared.present.batch.PieceRow.{PieceRow}
use Rattle.smq_present.specs.present.Batch.{prepare_refusal}
use Rattle.smq_desk.specs.declared.entry.Call.{Call}
use Rattle.smq_desk.specs.declared.entry.Reply.{Reply}
use Rattle.smq_desk.specs.declared.entry.Reply.TheVariants.{Done, Refused}
use Rattle.smq_desk.specs.declared.job.LinkJob.{LinkJob}

-- a job of which nothing is done
pub record IsFresh (job : LinkJob) : Type 0 where
  pub next : job.next ≡ 0
  pub refused : job.refused ≡ 0
  pub stop : job.stop ≡ None

-- an edit puts a row's octets after its direction, at its moment
abbrev pub Puts : PieceRow → Edit → Type 0
Puts row (Append batch) =
    (batch.link ≡ row.link) × (batch.session ≡ row.session) × (batch.dir ≡ row.dir)
    × (batch.moment ≡ row.moment) × (batch.octets ≡ row.octets)
Puts row (Withdraw session) = ⊥
Puts row (SetForm link response receipt) = ⊥
Puts row (SetWindow link window) = ⊥
Puts row (AddRoute prefix from route network) = ⊥
Puts row (EndRoute prefix from until) = ⊥
Puts row (CorrectRoute prefix from route network) = ⊥
Puts row (Advance clock) = ⊥

-- what became of a row that is done: no call, where preparing it was refused on some tail; else its call
abbrev pub IsFate : PieceRow → Option Call → Type 0
IsFate row None = (tail : TailValue) × (refusal : Refusal) × (prepare_refusal tail row.octets ≡ Some refusal)
IsFate row (Some call) = Puts row call.edit

-- whether a reply is a refusal
abbrev pub is_refusal : Reply → Bool
is_refusal Done = false
is_refusal (Refused refusal) = true

-- whether a row that is done was refused: it wasn't prepared, or its call was refused
abbrev pub was_refused : Option Call → Bool
was_refused None = true
was_refused (Some call) = is_refusal call.reply

-- These rows, in order, made the calls that came after the old ones. With those that weren't prepared, so many were refused.
pub record Made (rows : List PieceRow) (old new : List Call) (refused : ℕ) : Type 0 where
  pub fates : List (Option Call)
  pub each : AllZip IsFate rows fates
  pub calls : new ≡ old ++ flat_map option_to_list fates
  pub count : refused ≡ count_by was_refused fates

-- why a job stops: memory was wanting, the history is full, or no thread was started
abbrev pub IsStop : Refusal → Type 0
IsStop refusal = (refusal ≡ Memory) ⊎ (refusal ≡ HistoryFull) ⊎ (refusal ≡ NoThread)

-- What a worker makes of a job. Its rows and its seat's number stay. The first rows are done, so many as `next` tells, and made the
-- seat's new calls; where that isn't all of them, why the next one isn't done is told.
pub record Worked (old new : LinkJob) : Type 0 where
  pub rows : new.rows.items ≡ old.rows.items
  pub seat : new.seat.number ≡ old.seat.number
  pub done : new.next ≤ length old.rows.items
  pub made : Made (take new.next old.rows.items) old.seat.calls new.seat.calls new.refused
  pub stop : (new.stop ≡ None) ↔ (new.next ≡ length old.rows.items)
  pub reason : IfSome new.stop IsStop
