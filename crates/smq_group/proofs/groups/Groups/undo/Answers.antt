use Rattle.std.proofs.Common.{◌++◌}
use Rattle.smq_group.specs.within.Walked.{candidate_key, member_key}
use Rattle.smq_group.proofs.Vacating.{keys-none}
use Rattle.smq_group.proofs.groups.Groups.undo.Goals as goal

pub returns-clause-vacant : goal.returns-clause-vacant
returns-clause-vacant c = λ i.
    keys-none member_key c.undo.new.self.places c.undo.new.self.content c.undo.ensures.places i ++ (keys-none member_key c.undo-2.new.self.places c.undo-2.new.self.content c.undo-2.ensures.places i ++ keys-none candidate_key c.undo-3.new.self.places c.undo-3.new.self.content c.undo-3.ensures.places i)
