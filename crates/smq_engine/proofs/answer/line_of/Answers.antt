use Rattle.std.specs.Prelude.{string_bytes}
use Rattle.smq_kit.specs.Refusals.{text_of}
use Rattle.smq_engine.proofs.AnswerLemmas.{line_is, refusal_parts}
use Rattle.smq_engine.proofs.answer.line_of.Goals as goal

pub returns : goal.returns
returns c = line_is c.format.result string_bytes _ _ c.format.ensures.ok (refusal_parts c.args.number (text_of c.args.refusal))
