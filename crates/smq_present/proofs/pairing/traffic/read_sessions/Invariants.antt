-- What is read so far is what the sessions up to here say.
use Rattle.std.proofs.Common.{take}
use Rattle.std.specs.List.{AllZip}
use Rattle.smq_present.specs.within.Said.{Says}
use Rattle.smq_present.proofs.pairing.traffic.read_sessions.Given as goal

abbrev pub invariant-loop-view : goal.invariant-loop-view
invariant-loop-view l = AllZip Says (take l.view-index l.sessions) l.read.items
