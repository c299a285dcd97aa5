-- The columns so far, and those that the fields from this place on name, are all columns.
use Rattle.std.proofs.Common.{◌≡◌, drop}
use Rattle.csv.specs.Records.{fields_of}
use Rattle.smq_engine.specs.Record.{columns_of}
use Rattle.smq_engine.proofs.QuestionLemmas.{columns-after}
use Rattle.smq_engine.proofs.question.read_columns.Given as goal

abbrev pub invariant-loop-place : goal.invariant-loop-place
invariant-loop-place l = columns_of (drop 2 (fields_of l.fields)) ≡ columns-after l.columns.items (columns_of (drop l.place (fields_of l.fields)))
