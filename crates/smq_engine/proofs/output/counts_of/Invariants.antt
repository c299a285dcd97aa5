-- The messages so far are counted, and the lines of the others are left.
use Rattle.std.proofs.Common.{◌≡◌, ◌<◌, ◌^◌, ◌++◌, List, length}
use Rattle.smq_present.specs.join.Lines.{MessageLineValue}
use Rattle.smq_scratch.specs.Lines.{message_lines}
use Rattle.smq_count.specs.Counts.{counts_of}
use Rattle.smq_engine.proofs.output.counts_of.Given as goal

abbrev pub invariant-loop-line : goal.invariant-loop-line
invariant-loop-line l = record {
  counted : List MessageLineValue;
  counts : l.counts ≡ counts_of l.counting counted;
  all : counted ++ l.line-iterator ≡ message_lines l.present;
  few : length (message_lines l.present) < 2 ^ 63;
}
