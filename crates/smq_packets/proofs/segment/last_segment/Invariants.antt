use Rattle.std.proofs.Common.{◌≡◌, ◌-◌}
use Rattle.smq_packets.specs.Segments.{carried_by}
use Rattle.smq_packets.proofs.segment.last_segment.Given as goal

abbrev pub invariant-loop-passed : goal.invariant-loop-passed
invariant-loop-passed l = carried_by 32 l.frame l.fn.first ≡ carried_by (32 - l.passed) l.frame l.layer
