use Rattle.std.proofs.Common.{◌∙◌, ◌+◌, List, drop, ap, arith, sym}
use Rattle.csv.specs.Records.{fields_of}
use Rattle.smq_count.specs.declared.column.Column.{Column}
use Rattle.smq_engine.specs.Record.{columns_of}
use Rattle.smq_engine.proofs.QuestionLemmas.{columns-after, columns-first, columns-last, columns-next, columns-none}
use Rattle.smq_engine.proofs.question.read_columns.Goals as goal

pub loop-place-init : goal.loop-place-init
loop-place-init c =
    columns-first (columns_of (drop 2 (fields_of c.args.fields.now)))
    ∙ ap (λ (before : List Column). columns-after before (columns_of (drop 2 (fields_of c.args.fields.now)))) (sym c.new-columns.ensures.items)

pub returns-in-None : goal.returns-in-None
returns-in-None c = sym (c.loop-place.invariant
    ∙ columns-none (fields_of c.args.fields.now) c.loop-place.place c.field.result.now c.loop-place.columns.items c.field.ensures
    (sym c.in-None.is ∙ c.in_ok-column.ensures.value))

pub loop-place-preserved : goal.loop-place-preserved
loop-place-preserved c = c.loop-place.invariant
    ∙ columns-next (fields_of c.args.fields.now) c.loop-place.place c.field.result.now c.in-Some.column c.loop-place.columns.items c.field.ensures
    (sym c.in-Some.is ∙ c.in_ok-column.ensures.value)
    ∙ ap (λ (all : List Column). columns-after all (columns_of (drop (c.loop-place.place + 1) (fields_of c.args.fields.now)))) (sym c.in_ok-push-in-Some.ensures.items)

pub returns : goal.returns
returns c = sym (c.loop-place.invariant
    ∙ columns-last (fields_of c.args.fields.now) c.loop-place.place c.loop-place.columns.items
    (omega (arith, c.loop-place-test.false, c.len-place-end.ensures)))
