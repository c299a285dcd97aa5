-- Rows of pieces as one thread does them: each is prepared on the present tail of its direction, and committed.
use Rattle.std.specs.Prelude.{◌≢◌, All, AllPairs, List, [], ◌∷◌, fold, Option}
use Rattle.smq_kit.specs.declared.refusal.Refusal.{Refusal}
use Rattle.smq_kit.specs.Replies.{first_of}
use Rattle.smq_frame.specs.Tail.{TailValue}
use Rattle.smq_present.specs.declared.present.edit.Edit.{Edit}
use Rattle.smq_present.specs.declared.present.edit.Edit.TheVariants.{Append}
use Rattle.smq_present.specs.declared.present.batch.PieceRow.{PieceRow}
use Rattle.smq_present.specs.present.Batch.{BatchValue, batch_of, prepare_refusal}
use Rattle.smq_present.specs.present.Present.{PresentValue, tail_in}
use Rattle.smq_present.specs.present.Replies.{reply}
use Rattle.smq_present.specs.present.Steps.{step_unless}

-- the batch that a row is, prepared on a tail
abbrev pub batch_on : TailValue → PieceRow → BatchValue
batch_on tail row = batch_of row.link row.session row.dir tail row.moment row.octets

-- the present tail of a row's direction
abbrev pub tail_for : PresentValue → PieceRow → TailValue
tail_for p row = tail_in p row.session.0 row.dir

-- the edit that a row is, prepared on the present tail
abbrev pub piece_edit : PresentValue → PieceRow → Edit
piece_edit p row = Append (batch_on (tail_for p row) row)

-- what refuses a row: what refuses to prepare it on the present tail, or else what refuses its edit
abbrev pub piece_refusal : PresentValue → PieceRow → Option Refusal
piece_refusal p row = first_of (prepare_refusal (tail_for p row) row.octets ∷ reply p (piece_edit p row) ∷ [])

-- what is present after a row: its edit is made, or the row is refused and nothing changes
abbrev pub after_piece : PresentValue → PieceRow → PresentValue
after_piece p row = step_unless (piece_refusal p row) p (piece_edit p row)

-- what is present after rows, one after the other
abbrev pub after_pieces : PresentValue → List PieceRow → PresentValue
after_pieces p rows = fold after_piece p rows

-- what each of these rows is answered: nothing, or its refusal
abbrev pub piece_replies : PresentValue → List PieceRow → List (Option Refusal)
piece_replies p [] = []
piece_replies p (row ∷ rows) = piece_refusal p row ∷ piece_replies (after_piece p row) rows

-- ---- lists of rows

-- what is present after lists of rows, one list after the other
abbrev pub after_lists : PresentValue → List (List PieceRow) → PresentValue
after_lists p lists = fold after_pieces p lists

-- what each row of each list is answered then
abbrev pub list_replies : PresentValue → List (List PieceRow) → List (List (Option Refusal))
list_replies p [] = []
list_replies p (rows ∷ lists) = piece_replies p rows ∷ list_replies (after_pieces p rows) lists

-- no row of the one list has the session of a row of the other
abbrev pub AreApart : List PieceRow → List PieceRow → Type 0
AreApart rows others = All (λ row. All (λ other. row.session ≢ other.session) others) rows

-- no session is in two lists
abbrev pub HaveOwnSessions : List (List PieceRow) → Type 0
HaveOwnSessions lists = AllPairs AreApart lists
