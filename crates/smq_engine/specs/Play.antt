-- The edits that a list of rows comes to, and which of the rows are refused.
use Rattle.std.specs.Prelude.{ℕ, suc, List, [], ◌∷◌, ◌++◌, Option, Some, None}
use Rattle.smq_kit.specs.declared.refusal.Refusal.{Refusal}
use Rattle.smq_kit.specs.Replies.{first_of}
use Rattle.smq_present.specs.declared.present.edit.Edit.{Edit}
use Rattle.smq_present.specs.declared.present.edit.Edit.TheVariants.{Append}
use Rattle.smq_present.specs.present.Batch.{prepare_refusal}
use Rattle.smq_present.specs.present.Present.{PresentValue, empty, tail_in}
use Rattle.smq_present.specs.present.Replies.{reply}
use Rattle.smq_present.specs.present.Steps.{steps}
use Rattle.smq_load.specs.declared.record.Row.{Row}
use Rattle.smq_load.specs.declared.record.Row.TheVariants.{Piece, Plain}

-- the edit that a row is: a piece's octets, prepared on the present tail of their direction; any other edit as it stands
abbrev pub edit_of : PresentValue → Row → Edit
edit_of p (Piece row) = Append (record {
  link = row.link;
  session = row.session;
  dir = row.dir;
  tail = tail_in p row.session.0 row.dir;
  moment = row.moment;
  octets = row.octets;
})
edit_of p (Plain edit) = edit

-- what refuses to prepare a piece's octets; any other edit is there as it stands
abbrev pub unprepared : PresentValue → Row → Option Refusal
unprepared p (Piece row) = prepare_refusal (tail_in p row.session.0 row.dir) row.octets
unprepared p (Plain edit) = None

-- what refuses a row: what refuses to prepare it, or else what refuses its edit
abbrev pub refusal_of : PresentValue → Row → Option Refusal
refusal_of p row = first_of (unprepared p row ∷ reply p (edit_of p row) ∷ [])

-- one edit, or none where there is a refusal
abbrev pub edits_unless : Option Refusal → Edit → List Edit
edits_unless None edit = edit ∷ []
edits_unless (Some refusal) edit = []

-- the edits that a row comes to: none where it isn't prepared
abbrev pub row_edits : PresentValue → Row → List Edit
row_edits p row = edits_unless (unprepared p row) (edit_of p row)

-- what is present after a row, which a refused one leaves
abbrev pub after_row : PresentValue → Row → PresentValue
after_row p row = steps p (row_edits p row)

-- the edits that rows come to, each row prepared on what those before it leave present
abbrev pub edits_from : PresentValue → List Row → List Edit
edits_from p [] = []
edits_from p (row ∷ rows) = row_edits p row ++ edits_from (after_row p row) rows

-- what rows leave present
abbrev pub after_rows : PresentValue → List Row → PresentValue
after_rows p rows = steps p (edits_from p rows)

-- a refused row, told by its number
abbrev pub told : ℕ → Option Refusal → List (ℕ × Refusal)
told number None = []
told number (Some refusal) = (number, refusal) ∷ []

-- the refused rows, each with its number and its refusal, where the first row has this number
abbrev pub refused_from : ℕ → PresentValue → List Row → List (ℕ × Refusal)
refused_from number p [] = []
refused_from number p (row ∷ rows) = told number (refusal_of p row) ++ refused_from (suc number) (after_row p row) rows

-- the refused rows, each with its number, from 1, and its refusal
abbrev pub refused_rows : PresentValue → List Row → List (ℕ × Refusal)
refused_rows p rows = refused_from 1 p rows

-- ---- the rows of settings and of a script

-- the edits that the rows of settings, and then those of a script, come to in a new book
abbrev pub edits_of : List Row → List Row → List Edit
edits_of settings_rows rows = edits_from empty (settings_rows ++ rows)

-- what these edits leave present
abbrev pub present_of : List Row → List Row → PresentValue
present_of settings_rows rows = steps empty (edits_of settings_rows rows)

-- the refused rows of a script after the rows of settings, by their numbers in the script
abbrev pub refused_of : List Row → List Row → List (ℕ × Refusal)
refused_of settings_rows rows = refused_rows (after_rows empty settings_rows) rows
