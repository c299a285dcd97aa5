use Rattle.smq_tally.specs.Rows.{count_key}
use Rattle.smq_scratch.proofs.LineLaws.{lines-counted}
use Rattle.smq_scratch.proofs.laws.message_lines_are_counted.Goals as goal

pub returns : goal.returns
returns c = λ p view value outcome. lines-counted p (count_key view value outcome)
