use Rattle.std.proofs.Common.{◌≡◌, ◌∙◌, ap, length, sym}
use Rattle.csv.specs.Records.{fields_of}
use Rattle.smq_load.proofs.RecordLemmas.{drop-four}
use Rattle.smq_engine.specs.Record.{lost_of}
use Rattle.smq_engine.proofs.record.read_lost.Goals as goal

pub returns : goal.returns
returns c =
    let fields = fields_of c.args.fields.now in
    let count : length fields ≡ 4 = sym c.len.ensures ∙ c.if-len-ne4.false in
    let parts = drop-four fields c.field.result.now c.field-2.result.now c.field-3.result.now count c.field.ensures
    c.field-2.ensures c.field-3.ensures in
    c.lost.ensures ∙ ap lost_of (sym parts)
