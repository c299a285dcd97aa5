use Rattle.std.proofs.Common.{take}
use Rattle.smq_desk.specs.within.Least.{IsLeastOf}
use Rattle.smq_desk.proofs.matching.least_of.Given as goal

abbrev pub invariant-loop-call : goal.invariant-loop-call
invariant-loop-call l = IsLeastOf l.number (take l.call-index l.calls) l.least
