use Rattle.smq_route.proofs.EditLaws.{dates-stay}
use Rattle.smq_route.proofs.laws.corrections_keep_dates.Goals as goal

pub returns : goal.returns
returns c = record { dates = dates-stay }
