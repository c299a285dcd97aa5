-- The notes so far, and those of the receipts that are left, are what was there and those of all.
use Rattle.std.proofs.Common.{◌≡◌, ◌++◌, drop}
use Rattle.std.specs.List.{flat_map}
use Rattle.smq_scratch.specs.Lines.{listing_of}
use Rattle.smq_scratch.specs.within.Groups.{lines_kept}
use Rattle.smq_scratch.proofs.received.push_receipt_notes.Given as goal

abbrev pub invariant-loop-receipt : goal.invariant-loop-receipt
invariant-loop-receipt l =
    l.notes.items ++ flat_map listing_of (lines_kept l.groups (drop l.receipt-index l.receipts))
    ≡ l.initial.notes.items ++ flat_map listing_of (lines_kept l.groups l.receipts)
