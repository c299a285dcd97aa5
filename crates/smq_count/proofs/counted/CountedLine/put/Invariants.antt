use Rattle.std.proofs.Common.{◌≡◌, ◌++◌, map, take}
use Rattle.smq_count.proofs.counted.CountedLine.put.Given as goal

abbrev pub invariant-loop-text : goal.invariant-loop-text
invariant-loop-text l = l.into ≡ l.initial.into ++ map (λ text. text.items) (take l.text-index l.text-items)
