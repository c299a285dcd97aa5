-- The lines so far, and those for the receipts that are left, are those for all.
use Rattle.std.proofs.Common.{◌≡◌, ◌++◌, drop}
use Rattle.smq_scratch.specs.within.Groups.{lines_kept}
use Rattle.smq_scratch.proofs.received.receipt_lines.Given as goal

abbrev pub invariant-loop-receipt : goal.invariant-loop-receipt
invariant-loop-receipt l = l.made.items ++ lines_kept l.groups (drop l.receipt-index l.receipts) ≡ lines_kept l.groups l.receipts
