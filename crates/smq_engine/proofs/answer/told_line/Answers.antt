use Rattle.std.specs.Prelude.{string_bytes}
use Rattle.smq_engine.proofs.AnswerLemmas.{line_is, told_parts}
use Rattle.smq_engine.proofs.answer.told_line.Goals as goal

pub returns : goal.returns
returns c = line_is c.format.result string_bytes _ _ c.format.ensures.ok
    (told_parts c.args.number c.args.clock c.milliseconds-clock.result c.args.totals (string_bytes c.in_ok-name.name)
    (string_bytes c.in_ok-totals.totals) c.args.question.now c.in_ok-name.ensures c.milliseconds-clock.ensures.value c.in_ok-totals.ensures)
