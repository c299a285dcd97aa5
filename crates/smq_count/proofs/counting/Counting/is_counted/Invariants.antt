use Rattle.std.proofs.Common.{◌≡◌, drop}
use Rattle.std.specs.List.{list_all}
use Rattle.smq_count.specs.Counts.{has_text}
use Rattle.smq_count.proofs.counting.Counting.is_counted.Given as goal

abbrev pub invariant-loop-condition : goal.invariant-loop-condition
invariant-loop-condition l = list_all (has_text l.self.zone l.line) l.condition-items ≡ list_all (has_text l.self.zone l.line) (drop l.condition-index l.condition-items)
