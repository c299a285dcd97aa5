use Rattle.smq_present.proofs.lemmas.join.Routed.{routed, rest, same}
use Rattle.smq_present.proofs.laws.join.versions_change_routes_alone.Goals as goal

pub returns-clause-routed : goal.returns-clause-routed
returns-clause-routed c = routed

pub returns-clause-rest : goal.returns-clause-rest
returns-clause-rest c = rest

pub returns-clause-same : goal.returns-clause-same
returns-clause-same c = same
