use Rattle.std.proofs.Common.{arith}
use Rattle.smq_report.proofs.LineLemmas.{nothing-gathered}
use Rattle.smq_report.proofs.page.Page.send_full.Goals as goal

pub returns-clause-room : goal.returns-clause-room
returns-clause-room g c = nothing-gathered _ _ _ (omega arith) c.in_ok-self.ensures.empty
