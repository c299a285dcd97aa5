use Rattle.smq_scratch.proofs.LineLaws.{facts-of-lines}
use Rattle.smq_scratch.proofs.laws.message_lines_have_the_facts.Goals as goal

pub returns : goal.returns
returns c = facts-of-lines
