use Rattle.std.proofs.Common.{◌∙◌, sym}
use Rattle.smq_engine.proofs.RecordLemmas.{pick_of-other}
use Rattle.smq_engine.proofs.question.pick_named.Goals as goal

pub returns : goal.returns
returns c = c.named.ensures ∙ pick_of-other c.args.name.now (sym c.is_word.ensures ∙ c.if-is_word.false)
