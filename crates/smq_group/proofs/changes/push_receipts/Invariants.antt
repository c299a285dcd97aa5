use Rattle.std.proofs.Common.{◌≡◌, ◌++◌, take}
use Rattle.smq_group.specs.within.Told.{receipt_changes}
use Rattle.smq_group.proofs.changes.push_receipts.Given as goal

abbrev pub invariant-loop-member : goal.invariant-loop-member
invariant-loop-member l = l.changes.items ≡ l.fn.changes.items ++ receipt_changes l.outlook (take l.member-index l.members)
