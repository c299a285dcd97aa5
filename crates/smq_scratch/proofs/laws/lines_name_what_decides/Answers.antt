use Rattle.smq_scratch.proofs.DecidedLines.{lines-decided}
use Rattle.smq_scratch.proofs.laws.lines_name_what_decides.Goals as goal

pub returns : goal.returns
returns c = lines-decided
