use Rattle.std.proofs.Common.{◌≡◌, ◌-◌, ◌++◌, length, option_map}
use Rattle.smq_packets.specs.Fragments.{joined}
use Rattle.smq_packets.proofs.fragments.join.Given as goal

abbrev pub invariant-loop-passed : goal.invariant-loop-passed
invariant-loop-passed l =
    joined (length l.parts) l.parts l.fragment 0
    ≡ option_map (λ rest. l.octets.items ++ rest)
    (joined (length l.parts - l.passed) l.parts l.fragment (length l.octets.items))
