use Rattle.smq_route.proofs.Apart.{corrects-apart, ends-apart}
use Rattle.smq_route.proofs.EditLaws.{adds-apart}
use Rattle.smq_route.proofs.laws.edits_keep_versions_apart.Goals as goal

pub returns : goal.returns
returns c = record { adds = adds-apart; ends = ends-apart; corrects = corrects-apart }
