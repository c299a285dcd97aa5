-- Laws of the answers, of totals, and of counts.
use Rattle.std.specs.Prelude.{◌≡◌, ◌≤◌, ℕ, ◌+◌, List, [], ◌∷◌, ◌++◌, length, map, Option, Some}
use Rattle.smq_kit.specs.declared.refusal.Refusal.{Refusal}
use Rattle.smq_tally.specs.declared.outcome.Outcome.{Outcome}
use Rattle.smq_tally.specs.declared.value.Value.{Value}
use Rattle.smq_tally.specs.declared.view.View.{View}
use Rattle.smq_tally.specs.Tables.{count_at}
use Rattle.smq_present.specs.present.Present.{PresentValue}
use Rattle.smq_present.specs.whole.Scratch.{scratch}
use Rattle.smq_scratch.specs.Lines.{message_lines}
use Rattle.smq_count.specs.declared.cell.Cell.TheVariants as cell
use Rattle.smq_count.specs.declared.column.Column.TheVariants as column
use Rattle.smq_count.specs.Cells.{tuple_in}
use Rattle.smq_count.specs.Counts.{number_among}
use Rattle.smq_load.specs.declared.record.Row as rows
use Rattle.smq_load.specs.Script.{IsFirstBad, most_records}
use Rattle.smq_report.specs.declared.pick.Format.{Format}
use Rattle.smq_report.specs.declared.pick.Pick.{Pick}
use Rattle.smq_report.specs.declared.pick.Output.{Output}
use Rattle.smq_engine.specs.declared.runs.Limit.TheVariants.{Script, Unlimited}
use Rattle.smq_engine.specs.IsRun.{IsRun, SaysNoRow, output_text}
use Rattle.smq_engine.specs.Play.{present_of}
use Rattle.smq_engine.specs.declared.question.Question.{Question}
use Rattle.smq_engine.specs.declared.record.Record.{Record}
use Rattle.smq_engine.specs.declared.record.Record.TheVariants.{Ask}
use Rattle.smq_engine.specs.Record.{ask_name, pick_of}
use Rattle.smq_engine.specs.Answers.{answer_to, answers, asked_text, present_after, refusal_to, refusals, rows_of, said_of, told_line, totals_after}

-- What is said of some records stands whatever records come after them, and is followed by what is said of those: so a beginning of the
-- answers that ends with an answer is true of the records up to its question. The answer to a last question is what is asked of what the
-- rows before it leave present, the other records among them left out, and its line.
pub record AnswersStand : Type 0 where
  pub answered : (format : Format) (settings_rows : List rows.Row) (first more : List Record)
      → answers format settings_rows (first ++ more) ≡ answers format settings_rows first ++ said_of (answer_to format settings_rows) first more
  pub told : (settings_rows : List rows.Row) (first more : List Record)
      → refusals settings_rows (first ++ more) ≡ refusals settings_rows first ++ said_of (refusal_to settings_rows) first more
  pub last : (format : Format) (settings_rows : List rows.Row) (first : List Record) (question : Question)
      → answers format settings_rows (first ++ Ask question ∷ [])
      ≡ answers format settings_rows first
      ++ (asked_text format question (present_of settings_rows (rows_of first))
      ++ told_line (length first + 1) question (present_after settings_rows first).settings.clock (totals_after settings_rows first))

-- each pick is asked by its name
abbrev pub EachIsAsked : Type 0
EachIsAsked = (pick : Pick) → pick_of (ask_name pick) ≡ Some pick

-- What is written of a script is written of its rows where there is no limit; and where the rows are no more than a script may have, the
-- other way round. Among as many records as a script may have, its first bad one is the first that says no row.
pub record TotalsAreRuns : Type 0 where
  pub run : (output : Output) (settings : List ℕ) (refused : List (ℕ × Refusal)) (old new : Option (List ℕ)) (text : List ℕ)
      → IsRun Script (output_text output) settings refused old new text → IsRun Unlimited (output_text output) settings refused old new text
  pub total : (output : Output) (settings : List ℕ) (refused : List (ℕ × Refusal)) (old new : Option (List ℕ)) (text : List ℕ)
      → (all : IsRun Unlimited (output_text output) settings refused old new text) → length all.rows ≤ most_records
      → IsRun Script (output_text output) settings refused old new text
  pub no_row : (text : List ℕ) (number : ℕ) → IsFirstBad text number → number ≤ most_records → SaysNoRow text number
  pub first_bad : (text : List ℕ) (number : ℕ) → SaysNoRow text number → number ≤ most_records → IsFirstBad text number

-- Counted by a view's column and outcome, each value and outcome has as many messages as the tables count there: these counts are the view.
abbrev pub CountsAreTheView : Type 0
CountsAreTheView =
    (p : PresentValue) (view : View) (value : Value) (outcome : Outcome)
    → count_at (scratch p) view value outcome
    ≡ number_among (map (tuple_in (column.View view ∷ column.Outcome ∷ [])) (message_lines p)) (cell.Value value ∷ cell.Outcome outcome ∷ [])
