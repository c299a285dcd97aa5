-- The record that is followed: a row, a question, or what is missing of a session.
use Rattle.std.specs.Prelude.{ℕ, if◌then◌else◌, List, [], ◌∷◌, ◌++◌, codes, Option, Some, None, find, option_and_then, option_map, unwrap_or}
use Rattle.std.specs.List.{flat_map}
use Rattle.std.specs.Str.{bytes_eq}
use Rattle.smq_kit.specs.declared.names.SessionId.{SessionId}
use Rattle.smq_kit.specs.declared.place.Dir.{Dir}
use Rattle.smq_load.specs.Decimal.{decimal_to}
use Rattle.smq_load.specs.Fields.{dir_of, session_of}
use Rattle.smq_load.specs.declared.record.Row as rows
use Rattle.smq_load.specs.Row.{row_of}
use Rattle.smq_report.specs.declared.pick.Pick.{Pick}
use Rattle.smq_report.specs.declared.pick.Pick.TheVariants as pick
use Rattle.smq_report.specs.Picks.{is_named, pick_name, picks}
use Rattle.smq_count.specs.declared.column.Column.{Column}
use Rattle.smq_count.specs.Columns as columns
use Rattle.smq_engine.specs.declared.question.Question.{Question}
use Rattle.smq_engine.specs.declared.question.Question.TheVariants as question
use Rattle.smq_engine.specs.declared.record.Loss.{Loss}
use Rattle.smq_engine.specs.declared.record.Record.{Record}
use Rattle.smq_engine.specs.declared.record.Record.TheVariants as record_kind

-- what a record says: a row; a question about the report, or about counts by columns; or what is missing
pub data Said : Type 0 where
  SaysRow : rows.Row → Said
  AsksReport : Pick → Said
  AsksCount : List Column → Said
  SaysLost : Loss → Said

-- what a question asks
abbrev pub asked_by : Question → Said
asked_by (question.Report pick) = AsksReport pick
asked_by (question.Count columns) = AsksCount columns.items

-- what a record says, as it is kept
abbrev pub said_by : Record → Said
said_by (record_kind.Row row) = SaysRow row
said_by (record_kind.Ask question) = asked_by question
said_by (record_kind.Lost loss) = SaysLost loss

-- ---- questions

-- the name by which a pick is asked: a view's or a list's, and `report` for the whole report
abbrev pub ask_name : Pick → List ℕ
ask_name pick = unwrap_or (pick_name pick) (codes "report")

-- the pick that is asked by a name
abbrev pub pick_of : List ℕ → Option Pick
pick_of name = if bytes_eq name (codes "report") then Some pick.All else find (is_named name) picks

-- the columns that have these names, where each name is one's
unfoldable pub columns_of : List (List ℕ) → Option (List Column)
columns_of [] = Some []
columns_of (name ∷ names) =
    option_and_then (λ column. option_map (λ more. column ∷ more) (columns_of names)) (find (columns.is_named name) columns.columns)

-- what is asked by the fields of a record after its first: one, which names what is asked of the report; or `count`, and columns
abbrev pub question_of : List (List ℕ) → Option Said
question_of [] = None
question_of (name ∷ []) = option_map AsksReport (pick_of name)
question_of (name ∷ (first ∷ more)) =
    if bytes_eq name (codes "count") then option_map AsksCount (columns_of (first ∷ more)) else None

-- the name of a question about counts: `count`, and the names of its columns, each with a space before it
abbrev pub count_name : List Column → List ℕ
count_name all = codes "count" ++ flat_map (λ column. 32 ∷ columns.column_name column) all

-- the name of a question: that of its pick, or of its columns
abbrev pub question_name : Question → List ℕ
question_name (question.Report pick) = ask_name pick
question_name (question.Count columns) = count_name columns.items

-- ---- losses

abbrev pub lost_from : Option SessionId → Option Dir → Option ℕ → Option Said
lost_from (Some session) (Some dir) (Some octets) = Some (SaysLost (record { session = session; dir = dir; octets = octets }))
lost_from _ _ _ = None

-- what is missing by the fields after the first: a session, a direction of it, and how many octets, a decimal below 2^64
abbrev pub lost_of : List (List ℕ) → Option Said
lost_of (session ∷ dir ∷ octets ∷ []) = lost_from (session_of session) (dir_of dir) (decimal_to 18446744073709551615 octets)
lost_of _ = None

-- ---- records

-- what a record says: `ask` and what is asked a question, `lost` what is missing, and any other the row that it says in a script
abbrev pub record_of : List (List ℕ) → Option Said
record_of [] = None
record_of (first ∷ fields) =
    if bytes_eq first (codes "ask") then question_of fields
    else if bytes_eq first (codes "lost") then lost_of fields
    else option_map SaysRow (row_of (first ∷ fields))
