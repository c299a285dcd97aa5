use Rattle.std.proofs.Common.{◌≤◌}
use Rattle.smq_present.proofs.lemmas.present.Replied.{replies_of_edits}
use Rattle.smq_present.proofs.laws.present.replies_are_of_edits.Goals as goal

pub returns-clause-numbers : goal.returns-clause-numbers
returns-clause-numbers c = replies_of_edits
