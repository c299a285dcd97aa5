use Rattle.std.proofs.Common.{◌≡◌, ◌++◌, take}
use Rattle.smq_group.specs.within.Told.{submit_changes}
use Rattle.smq_group.proofs.changes.push_submits.Given as goal

abbrev pub invariant-loop-member : goal.invariant-loop-member
invariant-loop-member l = l.changes.items ≡ l.fn.changes.items ++ submit_changes l.outlook (take l.member-index l.members)
