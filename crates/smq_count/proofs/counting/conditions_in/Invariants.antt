use Rattle.std.proofs.Common.{◌≡◌, map, string_bytes, take}
use Rattle.smq_count.specs.Counts.{condition_text}
use Rattle.smq_count.proofs.counting.conditions_in.Given as goal

abbrev pub invariant-loop-text : goal.invariant-loop-text
invariant-loop-text l = map condition_text l.conditions.items ≡ map string_bytes (take l.text-index l.texts)
