use Rattle.std.proofs.Common.{◌≡◌, ◌-◌, length}
use Rattle.smq_packets.specs.Options.{option_within}
use Rattle.smq_packets.proofs.options.first_option.Given as goal

abbrev pub invariant-loop-passed : goal.invariant-loop-passed
invariant-loop-passed l =
    option_within (length l.options) l.is_big l.code l.options
    ≡ option_within (length l.options - l.passed) l.is_big l.code l.rest
