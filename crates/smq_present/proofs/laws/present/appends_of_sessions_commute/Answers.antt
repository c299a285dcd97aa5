use Rattle.smq_present.proofs.lemmas.present.Changes.{appends_commute}
use Rattle.smq_present.proofs.laws.present.appends_of_sessions_commute.Goals as goal

pub returns : goal.returns
returns c = appends_commute
