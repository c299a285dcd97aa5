-- The lines so far, and those that are left, are those of all messages.
use Rattle.std.proofs.Common.{◌≡◌, ◌++◌}
use Rattle.smq_scratch.specs.Lines.{message_lines}
use Rattle.smq_scratch.proofs.submitted.message_lines.Given as goal

abbrev pub invariant-loop-line : goal.invariant-loop-line
invariant-loop-line l = l.made.items ++ l.line-iterator ≡ message_lines l.present
