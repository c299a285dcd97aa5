use Rattle.std.proofs.Common.{arith}
use Rattle.std.proofs.lemmas.Grind.{common_steps}
use Rattle.smq_report.proofs.PaddingLemmas.{padded_dir, padded_right}
use Rattle.smq_report.proofs.table_layout.push_place.Goals as goal

pub returns : goal.returns
returns c = grind (arith, common_steps, padded_right, padded_dir)
