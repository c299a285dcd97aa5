use Rattle.std.proofs.Common.{take}
use Rattle.smq_scratch.specs.within.Groups.{HasSubmits}
use Rattle.smq_scratch.proofs.groups.Groups.of_submits.Given as goal

abbrev pub invariant-loop-submit : goal.invariant-loop-submit
invariant-loop-submit l = HasSubmits l.kept (take l.submit-index l.submits) l.numbers.items
