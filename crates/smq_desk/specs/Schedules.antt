-- Workers that each do a list of rows, in whatever order their steps fall: for each row a worker takes the present tail of its
-- direction, prepares the row on that tail, and commits what it prepared.
use Rattle.std.specs.Prelude.{◌≡◌, ℕ, All, List, [], ◌∷◌, ◌++◌, fold, map, slice_get, slice_set, Option, Some, None}
use Rattle.smq_kit.specs.declared.refusal.Refusal.{Refusal}
use Rattle.smq_frame.specs.Tail.{TailValue}
use Rattle.smq_present.specs.declared.present.edit.Edit.TheVariants.{Append}
use Rattle.smq_present.specs.declared.present.batch.PieceRow.{PieceRow}
use Rattle.smq_present.specs.present.Batch.{BatchValue, prepare_refusal}
use Rattle.smq_present.specs.present.Present.{PresentValue}
use Rattle.smq_present.specs.present.Replies.{reply}
use Rattle.smq_present.specs.present.Steps.{step}
use Rattle.smq_desk.specs.Pieces.{batch_on, tail_for, after_lists, list_replies, HaveOwnSessions}

-- where a worker stands in a row: before its first step; with the tail that it took; with the batch that it prepared; with what
-- refused to prepare it
pub data Stage : Type 0 where
  Begins : Stage
  Took : TailValue → Stage
  Prepared : BatchValue → Stage
  Unprepared : Refusal → Stage

-- a worker: the rows that it has left, where it stands in the first of them, and what those before were answered, in order
pub record Worker : Type 0 where
  pub rows : List PieceRow
  pub stage : Stage
  pub replies : List (Option Refusal)

-- what is present, and the workers, by their numbers from 0
pub record World : Type 0 where
  pub present : PresentValue
  pub workers : List Worker

-- where a worker stands once it tried to prepare a batch
abbrev pub prepared : BatchValue → Option Refusal → Stage
prepared batch None = Prepared batch
prepared batch (Some refusal) = Unprepared refusal

-- a worker that is done with a row, which was answered so, and has these left
abbrev pub done_with : Worker → Option Refusal → List PieceRow → Worker
done_with worker answer rows = record { rows = rows; stage = Begins; replies = worker.replies ++ answer ∷ [] }

-- a worker after its next step, by its rows and where it stands in the first of them; one without rows stays
abbrev pub worker_after : PresentValue → Worker → List PieceRow → Stage → Worker
worker_after p worker [] stage = worker
worker_after p worker (row ∷ rows) Begins = record worker { stage = Took (tail_for p row) }
worker_after p worker (row ∷ rows) (Took tail) =
    record worker { stage = prepared (batch_on tail row) (prepare_refusal tail row.octets) }
worker_after p worker (row ∷ rows) (Prepared batch) = done_with worker (reply p (Append batch)) rows
worker_after p worker (row ∷ rows) (Unprepared refusal) = done_with worker (Some refusal) rows

-- what is present after that step: what was, unless a batch is committed
abbrev pub present_after : PresentValue → List PieceRow → Stage → PresentValue
present_after p (row ∷ rows) (Prepared batch) = step p (Append batch)
present_after p rows stage = p

-- a world once the worker of a number took its next step, where there is one
abbrev pub moved : World → ℕ → Option Worker → World
moved w number None = w
moved w number (Some worker) = record {
  present = present_after w.present worker.rows worker.stage;
  workers = slice_set w.workers number (worker_after w.present worker worker.rows worker.stage);
}

-- the next step of the worker of a number; where there is none, nothing changes
abbrev pub next : World → ℕ → World
next w number = moved w number (slice_get w.workers number)

-- what a schedule leaves: each of its numbers stands for the next step of that worker
abbrev pub run : World → List ℕ → World
run w schedule = fold next w schedule

-- a worker for each list of rows, before its first step
abbrev pub starting : PresentValue → List (List PieceRow) → World
starting p lists = record {
  present = p;
  workers = map (λ rows. record { rows = rows; stage = Begins; replies = [] }) lists;
}

-- all rows of all workers are done
abbrev pub IsComplete : World → Type 0
IsComplete w = All (λ worker. worker.rows ≡ []) w.workers

-- what is present, and what each worker's rows were answered, is as one thread has it that does the lists one after the other
pub record IsOfOneThread (p : PresentValue) (lists : List (List PieceRow)) (w : World) : Type 0 where
  pub present : w.present ≡ after_lists p lists
  pub replies : map (λ worker. worker.replies) w.workers ≡ list_replies p lists

-- Whatever is present at first: where no session is in two lists, every complete schedule ends as one thread does.
abbrev pub SchedulesEndAsOneThread : Type 0
SchedulesEndAsOneThread = (p : PresentValue) (lists : List (List PieceRow)) (schedule : List ℕ)
    → HaveOwnSessions lists → IsComplete (run (starting p lists) schedule)
    → IsOfOneThread p lists (run (starting p lists) schedule)
