use Rattle.std.proofs.Common.{◌≡◌, ◌∙◌, length, sym}
use Rattle.csv.specs.Records.{fields_of}
use Rattle.smq_load.specs.Row.{field_count_of}
use Rattle.smq_load.proofs.RecordLemmas.{row_of-none, row_of-some, row_of_kind-other}
use Rattle.smq_load.proofs.record.read_row.Goals as goal

pub returns-in_default : goal.returns-in_default
returns-in_default c = sym (row_of-none (fields_of c.args.fields.now) (sym c.read_kind.ensures ∙ c.in_default.is))

pub returns-then-len-field_count : goal.returns-then-len-field_count
returns-then-len-field_count c =
    let fields = fields_of c.args.fields.now in
    let named = row_of-some fields c.in-Some.kind (sym c.read_kind.ensures ∙ c.in-Some.is) in
    let other : length fields ≡ field_count_of c.in-Some.kind → ⊥ = λ same. c.if-len-field_count.true (c.len.ensures ∙ same
    ∙ sym c.field_count.ensures) in
    sym (named ∙ row_of_kind-other c.in-Some.kind fields other)

pub returns : goal.returns
returns c =
    let fields = fields_of c.args.fields.now in
    let named = row_of-some fields c.in-Some.kind (sym c.read_kind.ensures ∙ c.in-Some.is) in
    rw named c.read_fields.ensures
