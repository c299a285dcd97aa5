-- What is answered to the questions among records, and what is told of their refused rows: each by the records before it.
use Rattle.std.specs.Prelude.{ℕ, ◌+◌, List, [], ◌∷◌, ◌++◌, codes, length, map, Option, Some, None, sum}
use Rattle.std.specs.List.{flat_map}
use Rattle.std.specs.Fmt.{decimal}
use Rattle.smq_kit.specs.declared.refusal.Refusal.{Refusal}
use Rattle.smq_kit.specs.Refusals.{text_of}
use Rattle.smq_present.specs.present.Present.{PresentValue}
use Rattle.smq_present.specs.whole.Scratch.{scratch}
use Rattle.smq_load.specs.declared.record.Row as rows
use Rattle.smq_report.specs.declared.pick.Format.{Format}
use Rattle.smq_report.specs.Report.{report_text}
use Rattle.smq_present.specs.join.Lines.{MessageLineValue}
use Rattle.smq_scratch.specs.Lines.{message_lines}
use Rattle.smq_report.specs.Lines.{csv_record}
use Rattle.smq_count.specs.declared.column.Column.{Column}
use Rattle.smq_count.specs.Cells.{tuple_in}
use Rattle.smq_count.specs.Columns.{column_name}
use Rattle.smq_count.specs.Counts.{count_fields, counts_among}
use Rattle.std.specs.FinMap as fin
use Rattle.smq_engine.specs.Play.{present_of, refusal_of, refused_of}
use Rattle.smq_engine.specs.declared.question.Question.{Question}
use Rattle.smq_engine.specs.declared.question.Question.TheVariants as question
use Rattle.smq_engine.specs.declared.record.Loss.{Loss}
use Rattle.smq_engine.specs.declared.record.Record.{Record}
use Rattle.smq_engine.specs.declared.record.Record.TheVariants.{Ask, Lost, Row}
use Rattle.smq_engine.specs.declared.totals.Totals.{Totals}
use Rattle.smq_engine.specs.Record.{question_name}

-- the row that a record is
abbrev pub row_in : Record → List rows.Row
row_in (Row row) = row ∷ []
row_in (Ask question) = []
row_in (Lost loss) = []

-- the rows among records, in order
abbrev pub rows_of : List Record → List rows.Row
rows_of records = flat_map row_in records

-- what a record says is missing
abbrev pub loss_in : Record → List Loss
loss_in (Row row) = []
loss_in (Ask question) = []
loss_in (Lost loss) = loss ∷ []

-- what the records say is missing, in order
abbrev pub losses_of : List Record → List Loss
losses_of records = flat_map loss_in records

-- what the rows of settings, and then the rows among records, leave present in a new book
abbrev pub present_after : List rows.Row → List Record → PresentValue
present_after settings_rows records = present_of settings_rows (rows_of records)

-- how many of the rows among records are refused, after the rows of settings
abbrev pub refused_after : List rows.Row → List Record → ℕ
refused_after settings_rows records = length (refused_of settings_rows (rows_of records))

-- how many of the rows among records are refused, and in how many gaps how many octets are missing
abbrev pub totals_after : List rows.Row → List Record → Totals
totals_after settings_rows records = record {
  refused = refused_after settings_rows records;
  gaps = length (losses_of records);
  octets = sum (map (λ loss. loss.octets) (losses_of records));
}

-- totals as a line has them: how many rows were refused so far, how many gaps were told, and how many octets are missing in them
abbrev pub totals_text : Totals → List ℕ
totals_text totals = decimal totals.refused ++ codes "," ++ decimal totals.gaps ++ codes "," ++ decimal totals.octets

-- the line that ends an answer: the number of its question among the records, what was asked, the present clock, and the totals so far
abbrev pub told_line : ℕ → Question → ℕ → Totals → List ℕ
told_line number question clock totals =
    codes "told," ++ decimal number ++ codes "," ++ question_name question ++ codes "," ++ decimal clock ++ codes "," ++ totals_text totals ++ 10 ∷ []

-- how many of the messages of these lines have each tuple in columns: the columns, and then a record for each tuple
abbrev pub columns_text : List Column → List MessageLineValue → List ℕ
columns_text columns lines =
    csv_record (map column_name columns ++ codes "messages" ∷ [])
    ++ flat_map (λ count. csv_record (count_fields count)) (fin.entries (counts_among (map (tuple_in columns) lines)))

-- what is asked: a report text of the tables that the definitions give of what is present, or counts of its messages
abbrev pub asked_text : Format → Question → PresentValue → List ℕ
asked_text format (question.Report pick) present = report_text pick format (scratch present)
asked_text format (question.Count columns) present = columns_text columns.items (message_lines present)

-- the answer to the question of this number, where this is present and the records before came to these totals: what is asked, and the
-- line that ends it
abbrev pub answer_text : Format → ℕ → Question → PresentValue → Totals → List ℕ
answer_text format number question present totals =
    asked_text format question present ++ told_line number question present.settings.clock totals

-- the answer to a record, after these records
abbrev pub answer_to : Format → List rows.Row → List Record → Record → List ℕ
answer_to format settings_rows before (Row row) = []
answer_to format settings_rows before (Ask question) =
    answer_text format (length before + 1) question (present_after settings_rows before) (totals_after settings_rows before)
answer_to format settings_rows before (Lost loss) = []

-- the line that tells a refusal of the row of a number: `row NUMBER: REFUSAL`
abbrev pub refusal_line : ℕ → Option Refusal → List ℕ
refusal_line number None = []
refusal_line number (Some refusal) = codes "row " ++ decimal number ++ codes ": " ++ text_of refusal ++ 10 ∷ []

-- what is told of the refusal of a record, after these records
abbrev pub refusal_to : List rows.Row → List Record → Record → List ℕ
refusal_to settings_rows before (Row row) = refusal_line (length before + 1) (refusal_of (present_after settings_rows before) row)
refusal_to settings_rows before (Ask question) = []
refusal_to settings_rows before (Lost loss) = []

-- what is said of each of some records by those before it, one after the other
abbrev pub said_of : (List Record → Record → List ℕ) → List Record → List Record → List ℕ
said_of say before [] = []
said_of say before (r ∷ records) = say before r ++ said_of say (before ++ r ∷ []) records

-- the answers to the questions among records, in order
abbrev pub answers : Format → List rows.Row → List Record → List ℕ
answers format settings_rows records = said_of (answer_to format settings_rows) [] records

-- the lines that tell the refused rows among records, in order
abbrev pub refusals : List rows.Row → List Record → List ℕ
refusals settings_rows records = said_of (refusal_to settings_rows) [] records
