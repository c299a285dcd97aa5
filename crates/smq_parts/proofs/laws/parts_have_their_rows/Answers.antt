use Rattle.smq_parts.proofs.Texts.{rows_become}
use Rattle.smq_parts.proofs.laws.parts_have_their_rows.Goals as goal

pub returns : goal.returns
returns c = rows_become
