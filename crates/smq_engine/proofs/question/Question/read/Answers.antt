use Rattle.std.proofs.Common.{◌≡◌, ◌∙◌, ◌<◌, ap, arith, length, sym}
use Rattle.std.specs.Prelude.{option_map}
use Rattle.csv.specs.Records.{fields_of}
use Rattle.smq_engine.specs.Record.{AsksCount}
use Rattle.smq_engine.proofs.QuestionLemmas.{question-count, question-other, question-pick}
use Rattle.smq_engine.proofs.question.Question.read.Goals as goal

pub returns-then-len-eq2 : goal.returns-then-len-eq2
returns-then-len-eq2 c =
    let count : length (fields_of c.args.fields.now) ≡ 2 = sym c.len-2.ensures ∙ c.if-len-eq2.true in
    c.read_pick.ensures ∙ sym (question-pick (fields_of c.args.fields.now) c.field.result.now count c.field.ensures)

pub returns-then-not-is_word : goal.returns-then-not-is_word
returns-then-not-is_word c =
    let fields = fields_of c.args.fields.now in
    let more : 2 < length fields = omega (arith, c.len.ensures, c.len-2.ensures, c.if-len-lt2.false, c.if-len-eq2.false) in
    sym (question-other fields c.field-2.result.now more c.field-2.ensures (sym c.is_word.ensures ∙ c.if-not-is_word.true))

pub returns-in-Some : goal.returns-in-Some
returns-in-Some c =
    let fields = fields_of c.args.fields.now in
    let more : 2 < length fields = omega (arith, c.len.ensures, c.len-2.ensures, c.if-len-lt2.false, c.if-len-eq2.false) in
    ap (option_map AsksCount) (ap (option_map (λ columns. columns.items)) (sym c.in-Some.is) ∙ c.in_ok-columns.ensures)
    ∙ sym (question-count fields c.field-2.result.now more c.field-2.ensures (sym c.is_word.ensures ∙ c.if-not-is_word.false))

pub returns-in-None : goal.returns-in-None
returns-in-None c =
    let fields = fields_of c.args.fields.now in
    let more : 2 < length fields = omega (arith, c.len.ensures, c.len-2.ensures, c.if-len-lt2.false, c.if-len-eq2.false) in
    ap (option_map AsksCount) (ap (option_map (λ columns. columns.items)) (sym c.in-None.is) ∙ c.in_ok-columns.ensures)
    ∙ sym (question-count fields c.field-2.result.now more c.field-2.ensures (sym c.is_word.ensures ∙ c.if-not-is_word.false))
