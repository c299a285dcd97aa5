use Rattle.std.proofs.Common.{◌∙◌, ap, sym}
use Rattle.std.specs.Prelude.{option_map}
use Rattle.csv.specs.Records.{fields_of}
use Rattle.smq_engine.specs.Record.{SaysRow, asked_by}
use Rattle.smq_engine.proofs.RecordLemmas.{record_of-ask, record_of-lost, record_of-row}
use Rattle.smq_engine.proofs.record.Record.read.Goals as goal

pub returns-in-Some : goal.returns-in-Some
returns-in-Some c =
    ap (option_map asked_by) (sym c.in-Some.is) ∙ c.in_ok-question.ensures
    ∙ sym (record_of-ask (fields_of c.args.fields.now) (sym c.begins_with.ensures ∙ c.if-begins_with.true))

pub returns-in-None : goal.returns-in-None
returns-in-None c =
    ap (option_map asked_by) (sym c.in-None.is) ∙ c.in_ok-question.ensures
    ∙ sym (record_of-ask (fields_of c.args.fields.now) (sym c.begins_with.ensures ∙ c.if-begins_with.true))

pub returns-then-begins_with-2 : goal.returns-then-begins_with-2
returns-then-begins_with-2 c =
    c.read_lost.ensures
    ∙ sym (record_of-lost (fields_of c.args.fields.now) (sym c.begins_with.ensures ∙ c.if-begins_with.false)
    (sym c.begins_with-2.ensures ∙ c.if-begins_with-2.true))

pub returns-in-Some-2 : goal.returns-in-Some-2
returns-in-Some-2 c =
    ap (option_map SaysRow) (sym c.in-Some-2.is ∙ c.in_ok-row.ensures)
    ∙ sym (record_of-row (fields_of c.args.fields.now) (sym c.begins_with.ensures ∙ c.if-begins_with.false)
    (sym c.begins_with-2.ensures ∙ c.if-begins_with-2.false))

pub returns-in-None-2 : goal.returns-in-None-2
returns-in-None-2 c =
    ap (option_map SaysRow) (sym c.in-None-2.is ∙ c.in_ok-row.ensures)
    ∙ sym (record_of-row (fields_of c.args.fields.now) (sym c.begins_with.ensures ∙ c.if-begins_with.false)
    (sym c.begins_with-2.ensures ∙ c.if-begins_with-2.false))
