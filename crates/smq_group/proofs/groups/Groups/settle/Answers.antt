use Rattle.std.proofs.Common.{◌++◌}
use Rattle.smq_group.specs.within.Walked.{candidate_key, member_key}
use Rattle.smq_group.proofs.Vacating.{keys-none}
use Rattle.smq_group.proofs.groups.Groups.settle.Goals as goal

pub returns-clause-vacant : goal.returns-clause-vacant
returns-clause-vacant c = λ i.
    keys-none member_key c.settle.new.self.places c.settle.new.self.content c.settle.ensures.places i ++ (keys-none member_key c.settle-2.new.self.places c.settle-2.new.self.content c.settle-2.ensures.places i ++ keys-none candidate_key c.settle-3.new.self.places c.settle-3.new.self.content c.settle-3.ensures.places i)
