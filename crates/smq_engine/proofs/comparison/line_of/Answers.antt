use Rattle.std.proofs.Common.{rules, append_assoc}
use Rattle.smq_engine.proofs.comparison.line_of.Goals as goal

pub returns : goal.returns
returns c = rw (← c.word_of-word.ensures) (search (rules, append_assoc))
