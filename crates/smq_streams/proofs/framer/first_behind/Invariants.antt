use Rattle.std.proofs.Common.{ℕ, List, ◌++◌, take}
use Rattle.smq_streams.specs.declared.framer.Framer.TheVariants.{Length}
use Rattle.smq_streams.specs.Framing.{IsUnderWay}
use Rattle.smq_streams.proofs.framer.first_behind.Given as goal

abbrev pub invariant-loop-i : goal.invariant-loop-i
invariant-loop-i l = (rest : List ℕ) → IsUnderWay rest (Length l.fn.count l.fn.number) → IsUnderWay (rest ++ take l.i l.octets) l.framer
