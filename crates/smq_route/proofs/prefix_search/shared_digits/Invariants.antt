use Rattle.std.proofs.Common.{◌≡◌, take}
use Rattle.smq_route.proofs.prefix_search.shared_digits.Given as goal

abbrev pub invariant-loop-len : goal.invariant-loop-len
invariant-loop-len l = take l.len l.a ≡ take l.len l.b
