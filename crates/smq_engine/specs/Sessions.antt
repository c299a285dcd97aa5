-- What became of the pieces of one session.
use Rattle.std.specs.Prelude.{◌≡◌, ◌==◌, ℕ, List, [], ◌∷◌, filter, if◌then◌else◌, Option, flat_map, option_to_list}
use Rattle.std.specs.List.{AllZip}
use Rattle.smq_kit.specs.declared.names.SessionId.{SessionId}
use Rattle.smq_present.specs.declared.present.edit.Edit.{Edit}
use Rattle.smq_present.specs.declared.present.batch.PieceRow.{PieceRow}
use Rattle.smq_present.specs.present.Steps.{is_append_to}
use Rattle.smq_desk.specs.declared.entry.Call.{Call}
use Rattle.smq_desk.specs.declared.entry.Entry.{Entry}
use Rattle.smq_desk.specs.Jobs.{IsFate}
use Rattle.smq_load.specs.declared.record.Row.{Row}
use Rattle.smq_load.specs.declared.record.Row.TheVariants.{Piece, Plain}
use Rattle.smq_engine.specs.Workers.{edits_of_calls}

-- the piece that a row is, if it is one of this session
abbrev pub piece_of_session : SessionId → Row → List PieceRow
piece_of_session session (Piece piece) = if piece.session.0 == session.0 then piece ∷ [] else []
piece_of_session session (Plain edit) = []

-- the pieces of a session, in the order of the rows
abbrev pub pieces_of_session : SessionId → List Row → List PieceRow
pieces_of_session session rows = flat_map (piece_of_session session) rows

-- the edits of the entries that are of other seats than this one, in order
abbrev pub edits_of_others : ℕ → List Entry → List Edit
edits_of_others seat [] = []
edits_of_others seat (e ∷ entries) =
    if e.seat == seat then edits_of_others seat entries else e.edit ∷ edits_of_others seat entries

-- Where the first seat has this number, the edits by which other seats put octets into a session are, in order, what became of the
-- session's pieces.
pub record IsLoadedInOrder (session : SessionId) (rows : List Row) (first : ℕ) (entries : List Entry) : Type 0 where
  pub fates : List (Option Call)
  pub each : AllZip IsFate (pieces_of_session session rows) fates
  pub edits : filter (is_append_to session) (edits_of_others first entries) ≡ edits_of_calls (flat_map option_to_list fates)
