use Rattle.std.specs.Prelude.{string_bytes}
use Rattle.smq_engine.proofs.AnswerLemmas.{line_is, totals_parts}
use Rattle.smq_engine.proofs.answer.totals_text.Goals as goal

pub returns : goal.returns
returns c = line_is c.format.result string_bytes _ _ c.format.ensures.ok (totals_parts c.args.totals)
