-- How rows are made at a desk: a first seat makes the plain edits, and each of eight workers, from a seat of its own, the pieces
-- of its sessions.
use Rattle.std.specs.Prelude.{◌≡◌, ◌%◌, ◌==◌, ℕ, List, [], ◌∷◌, if◌then◌else◌, length, map, Some, slice_get}
use Rattle.std.specs.List.{flat_map}
use Rattle.smq_kit.specs.declared.names.SessionId.{SessionId}
use Rattle.smq_present.specs.declared.present.edit.Edit.{Edit}
use Rattle.smq_present.specs.declared.present.batch.PieceRow.{PieceRow}
use Rattle.smq_desk.specs.declared.entry.Call.{Call}
use Rattle.smq_desk.specs.declared.entry.Entry.{Entry}
use Rattle.smq_desk.specs.Jobs.{Made}
use Rattle.smq_desk.specs.Seats.{SeatValue, AreCallsOf}
use Rattle.smq_load.specs.declared.record.Row.{Row}
use Rattle.smq_load.specs.declared.record.Row.TheVariants.{Piece, Plain}

-- how many workers there are; they are numbered from 0
abbrev pub worker_count : ℕ
worker_count = 8

-- the worker that has the pieces of a session
abbrev pub worker_of : SessionId → ℕ
worker_of session = session.0 % worker_count

-- the piece that a row is, if it is one of this worker
abbrev pub piece_of_worker : ℕ → Row → List PieceRow
piece_of_worker worker (Piece piece) = if worker_of piece.session == worker then piece ∷ [] else []
piece_of_worker worker (Plain edit) = []

-- the pieces of a worker, in the order of the rows
abbrev pub pieces_of_worker : ℕ → List Row → List PieceRow
pieces_of_worker worker rows = flat_map (piece_of_worker worker) rows

-- the edit that a row is as it stands, if it is no piece
abbrev pub plain_edit : Row → List Edit
plain_edit (Piece piece) = []
plain_edit (Plain edit) = edit ∷ []

-- the edits of the rows that are no pieces, in their order
abbrev pub plain_edits : List Row → List Edit
plain_edits rows = flat_map plain_edit rows

-- the edits of calls, in order
abbrev pub edits_of_calls : List Call → List Edit
edits_of_calls calls = map (λ c. c.edit) calls

-- a seat's calls are what became of these pieces, in their order
abbrev pub HasMade : List PieceRow → SeatValue → Type 0
HasMade pieces seat = (refused : ℕ) × Made pieces [] seat.calls refused

-- Nine seats have made rows: the calls of the first are the plain edits, in order, and those of each worker's seat what became of
-- that worker's pieces, in their order.
pub record HaveMadeRows (rows : List Row) (seats : List SeatValue) : Type 0 where
  pub first : SeatValue
  pub workers : List SeatValue
  pub all : seats ≡ first ∷ workers
  pub number : length workers ≡ worker_count
  pub plain : edits_of_calls first.calls ≡ plain_edits rows
  pub pieces : (worker : ℕ) (seat : SeatValue) → slice_get workers worker ≡ Some seat → HasMade (pieces_of_worker worker rows) seat

-- The entries of a history are made of rows: they are the calls of nine seats that have made the rows, each once.
pub record AreMadeOf (rows : List Row) (entries : List Entry) : Type 0 where
  pub seats : List SeatValue
  pub calls : AreCallsOf seats entries
  pub made : HaveMadeRows rows seats
