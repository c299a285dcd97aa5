-- A job of two rows, and what a worker makes of it, written out: one row has no octets, the other one octet 7.
use Rattle.std.specs.Prelude.{◌≡◌, ℕ, List, [], ◌∷◌, Option, Some, None}
use Rattle.smq_kit.specs.declared.place.Dir.{Dir}
use Rattle.smq_kit.specs.declared.place.Dir.TheVariants.{FromClient, FromCentre}
use Rattle.smq_kit.specs.declared.refusal.Refusal.{Refusal}
use Rattle.smq_kit.specs.declared.refusal.Refusal.TheVariants.{Backward, HistoryFull, Memory, NoSeat, NoSession, NoThread}
use Rattle.smq_frame.specs.Tail.{tail_of}
use Rattle.smq_present.specs.declared.present.edit.Edit.{Edit}
use Rattle.smq_present.specs.declared.present.edit.Edit.TheVariants.{Append, Withdraw, Advance}
use Rattle.smq_present.specs.declared.present.batch.PieceRow.{PieceRow}
use Rattle.smq_present.specs.present.Batch.{batch_of}
use Rattle.smq_desk.specs.declared.entry.Call.{Call}
use Rattle.smq_desk.specs.declared.entry.Reply.TheVariants.{Done, Refused}
use Rattle.smq_desk.specs.declared.job.LinkJob.{LinkJob}
use Rattle.smq_desk.specs.Jobs.{IsFresh, Puts, IsFate, Made, Worked}
use Rattle.smq_desk.specs.Seats.{call_of}

-- octets of session 10 of link 1 from the client, at 1000
abbrev pub row_of : List ℕ → PieceRow
row_of octets =
    record { link = record { 0 = 1 }; session = record { 0 = 10 }; dir = FromClient; moment = 1000; octets = octets }

-- the append of an octet on the tail of no octets
abbrev pub put : ℕ → ℕ → Dir → ℕ → ℕ → Edit
put link session dir moment octet =
    Append (batch_of (record { 0 = link }) (record { 0 = session }) dir (tail_of []) moment (octet ∷ []))

abbrev pub rows : List PieceRow
rows = row_of [] ∷ row_of (7 ∷ []) ∷ []

-- calls of the appends of an octet 7 and an octet 8 by the same seat, and the first where the book refuses it
abbrev pub call_of_7 : Call
call_of_7 = call_of 5 (put 1 10 FromClient 1000 7) Done

abbrev pub call_of_8 : Call
call_of_8 = call_of 6 (put 1 10 FromClient 1000 8) Done

abbrev pub refused_call : Call
refused_call = call_of 5 (put 1 10 FromClient 1000 7) (Refused (Backward 1200))

-- a job with these parts, of seat 3
pub record IsJob (job : LinkJob) (all : List PieceRow) (calls : List Call) (place count : ℕ) (why : Option Refusal) : Type 0 where
  pub rows : job.rows.items ≡ all
  pub seat : job.seat ≡ record { number = 3; calls = calls }
  pub next : job.next ≡ place
  pub refused : job.refused ≡ count
  pub stop : job.stop ≡ why

-- Which edits put the octet 7 of a row: one of its link, session, direction, moment and octets.
pub record KnownPuts : Type 0 where
  pub its_own : Puts (row_of (7 ∷ [])) (put 1 10 FromClient 1000 7)
  pub another_link : Puts (row_of (7 ∷ [])) (put 2 10 FromClient 1000 7) → ⊥
  pub another_session : Puts (row_of (7 ∷ [])) (put 1 20 FromClient 1000 7) → ⊥
  pub another_direction : Puts (row_of (7 ∷ [])) (put 1 10 FromCentre 1000 7) → ⊥
  pub another_moment : Puts (row_of (7 ∷ [])) (put 1 10 FromClient 1001 7) → ⊥
  pub other_octets : Puts (row_of (7 ∷ [])) (put 1 10 FromClient 1000 8) → ⊥
  pub withdrawal : Puts (row_of (7 ∷ [])) (Withdraw (record { 0 = 10 })) → ⊥
  pub clock : Puts (row_of (7 ∷ [])) (Advance 1000) → ⊥

-- What the two rows made: one call, and one refusal or, where the book refuses the call, two. Calls come in the order of rows.
pub record KnownRows : Type 0 where
  pub not_prepared : IsFate (row_of []) None
  pub made : Made rows (call_of_8 ∷ []) (call_of_8 ∷ call_of_7 ∷ []) 1
  pub refused : Made rows [] (refused_call ∷ []) 2
  pub no_refusal : Made rows [] (call_of_7 ∷ []) 0 → ⊥
  pub two_refusals : Made rows [] (call_of_7 ∷ []) 2 → ⊥
  pub one_refusal : Made rows [] (refused_call ∷ []) 1 → ⊥
  pub in_order : Made (row_of (7 ∷ []) ∷ row_of (8 ∷ []) ∷ []) [] (call_of_7 ∷ call_of_8 ∷ []) 0
  pub out_of_order : Made (row_of (7 ∷ []) ∷ row_of (8 ∷ []) ∷ []) [] (call_of_8 ∷ call_of_7 ∷ []) 0 → ⊥

-- The job when it is new, when it is done, and where it stopped at its second row.
abbrev pub IsNew : LinkJob → Type 0
IsNew job = IsJob job rows [] 0 0 None

abbrev pub IsDone : LinkJob → Type 0
IsDone job = IsJob job rows (call_of_7 ∷ []) 2 1 None

abbrev pub IsStopped : Refusal → LinkJob → Type 0
IsStopped why job = IsJob job rows [] 1 1 (Some why)

-- What a worker may make of the job, and what not: hand it back without its rows or with another seat, or be done too early.
pub record KnownJob : Type 0 where
  pub fresh : (job : LinkJob) → IsNew job → IsFresh job
  pub done : (job new : LinkJob) → IsNew job → IsDone new → Worked job new
  pub full : (job new : LinkJob) → IsNew job → IsStopped HistoryFull new → Worked job new
  pub no_memory : (job new : LinkJob) → IsNew job → IsStopped Memory new → Worked job new
  pub no_thread : (job new : LinkJob) → IsNew job → IsStopped NoThread new → Worked job new
  pub no_reason : (job new : LinkJob) → IsNew job → IsStopped NoSession new → Worked job new → ⊥
  pub no_seat : (job new : LinkJob) → IsNew job → IsStopped NoSeat new → Worked job new → ⊥
  pub too_early : (job new : LinkJob) → IsNew job → IsJob new rows [] 1 1 None → Worked job new → ⊥
  pub too_late : (job new : LinkJob) → IsNew job → IsJob new rows (call_of_7 ∷ []) 2 1 (Some Memory) → Worked job new → ⊥
  pub without_rows : (job new : LinkJob) → IsNew job → IsJob new [] (call_of_7 ∷ []) 2 1 None → Worked job new → ⊥
