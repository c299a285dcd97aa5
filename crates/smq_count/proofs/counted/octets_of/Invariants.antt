use Rattle.std.proofs.Common.{◌≡◌, map, string_bytes, take}
use Rattle.smq_count.proofs.counted.octets_of.Given as goal

abbrev pub invariant-loop-name : goal.invariant-loop-name
invariant-loop-name l = map (λ name. name.now) l.octets.items ≡ map string_bytes (take l.name-index l.names)
