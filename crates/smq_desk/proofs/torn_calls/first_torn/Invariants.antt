use Rattle.std.proofs.Common.{take}
use Rattle.smq_desk.proofs.TornCalls.{SoFar}
use Rattle.smq_desk.proofs.torn_calls.first_torn.Given as goal

abbrev pub invariant-loop-call : goal.invariant-loop-call
invariant-loop-call l = SoFar l.history.entries l.holder (take l.call-index l.calls) l.first
