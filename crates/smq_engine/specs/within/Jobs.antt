-- The jobs of workers while rows are taken, and what a desk comes to.
use Rattle.std.specs.Prelude.{◌≡◌, ◌↔◌, ⊤, ℕ, Bool, List, [], ◌++◌, All, IsTrue, None, Some, length, slice_get}
use Rattle.smq_kit.specs.declared.refusal.Refusal.{Refusal}
use Rattle.smq_kit.specs.declared.refusal.Refusal.TheVariants as refusal
use Rattle.smq_tally.specs.Tables.{TablesKept, TablesValue}
use Rattle.smq_present.specs.declared.present.batch.PieceRow.{PieceRow}
use Rattle.smq_present.specs.whole.Scratch.{scratch}
use Rattle.smq_desk.specs.declared.entry.Entry.{Entry}
use Rattle.smq_desk.specs.declared.job.LinkJob.{LinkJob}
use Rattle.smq_desk.specs.History.{replay, IsLegal}
use Rattle.smq_desk.specs.Jobs.{IsFresh}
use Rattle.smq_desk.specs.Seats.{SeatValue, AreCallsOf}
use Rattle.smq_load.specs.declared.record.Row.{Row}
use Rattle.smq_engine.specs.declared.run_fault.RunFault.{RunFault}
use Rattle.smq_engine.specs.declared.run_fault.RunFault.TheVariants.{BadRow, BadSettings, Read, Write, Memory, NoThread, Desk}
use Rattle.smq_engine.specs.Play.{present_of, refused_of}
use Rattle.smq_engine.specs.Workers.{HasMade, pieces_of_worker, worker_count}

-- a fault of making rows that were read: of memory, of a thread or of the desk
abbrev pub IsDeskFault : RunFault → Type 0
IsDeskFault (BadRow row) = ⊥
IsDeskFault BadSettings = ⊥
IsDeskFault Read = ⊥
IsDeskFault Write = ⊥
IsDeskFault Memory = ⊤
IsDeskFault NoThread = ⊤
IsDeskFault Desk = ⊤

-- the fault of a check at a refusal of its desk or of a worker
abbrev pub desk_fault : Refusal → RunFault
desk_fault refusal.Memory = Memory
desk_fault refusal.NoThread = NoThread
desk_fault _ = Desk

-- each worker has a job, of which nothing is done
pub record AreReady (jobs : List LinkJob) : Type 0 where
  pub number : length jobs ≡ worker_count
  pub fresh : All IsFresh jobs

-- of a worker's pieces the first have made its seat's calls, and the others wait as its job's rows
pub record IsJobOf (pieces : List PieceRow) (job : LinkJob) : Type 0 where
  pub first : List PieceRow
  pub made : HasMade first job.seat
  pub others : pieces ≡ first ++ job.rows.items

-- each job is of the pieces that the worker of its place has among these rows
abbrev pub AreJobsOf : List Row → List LinkJob → Type 0
AreJobsOf rows jobs =
    (worker : ℕ) (job : LinkJob) → slice_get jobs worker ≡ Some job → IsJobOf (pieces_of_worker worker rows) job

-- nothing waits in a job
abbrev pub IsDone : LinkJob → Type 0
IsDone job = job.rows.items ≡ []

-- a fresh job without rows, from a seat without calls
pub record IsNew (job : LinkJob) : Type 0 where
  pub fresh : IsFresh job
  pub done : IsDone job
  pub calls : job.seat.calls ≡ []

-- a job whose rows are all done, and a fresh one without rows from the same seat
pub record IsRenewed (old new : LinkJob) : Type 0 where
  pub ended : old.stop ≡ None
  pub fresh : IsFresh new
  pub seat : new.seat ≡ old.seat
  pub done : IsDone new

-- A desk was closed for these seats: their calls are its history, which is legal; it is told whether its tables are these, and how
-- many entries it has.
pub record IsClosedFor (seats : List SeatValue) (shown : TablesValue) (same : Bool) (count : ℕ) : Type 0 where
  pub entries : List Entry
  pub legal : IsLegal entries
  pub calls : AreCallsOf seats entries
  pub counted : count ≡ length entries
  pub same_tables : IsTrue same ↔ (scratch (replay entries) ≡ shown)

-- A play of the rows of settings and of a script left what these tables are counted of, and refused so many rows of the script.
pub record IsPlay (settings_rows rows : List Row) (played : TablesKept × ℕ) : Type 0 where
  pub tables : played.0.shown ≡ scratch (present_of settings_rows rows)
  pub refused : played.1 ≡ length (refused_of settings_rows rows)
