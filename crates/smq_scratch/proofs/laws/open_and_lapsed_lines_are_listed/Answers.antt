use Rattle.smq_scratch.proofs.LineLaws.{lapsed-lines, open-lines}
use Rattle.smq_scratch.proofs.laws.open_and_lapsed_lines_are_listed.Goals as goal

pub returns-clause-open : goal.returns-clause-open
returns-clause-open c = open-lines

pub returns-clause-lapsed : goal.returns-clause-lapsed
returns-clause-lapsed c = lapsed-lines
