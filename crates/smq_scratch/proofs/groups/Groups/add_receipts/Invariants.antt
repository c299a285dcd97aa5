-- The receipts so far are those of the sessions before, and of the PDUs of one session before.
use Rattle.std.proofs.Common.{◌++◌, take}
use Rattle.std.specs.List.{flat_map}
use Rattle.smq_present.specs.within.Receipts.{receipts_among}
use Rattle.smq_present.specs.within.Sourced.{receipts_in}
use Rattle.smq_scratch.specs.within.Groups.{AddsReceipts}
use Rattle.smq_scratch.proofs.groups.Groups.add_receipts.Given as goal

abbrev pub invariant-loop-pdu : goal.invariant-loop-pdu
invariant-loop-pdu l = AddsReceipts l.fn.self l.self
    (flat_map receipts_in (take l.view-index l.sessions) ++ receipts_among l.view-inside.source (take l.pdu-index l.pdu-items))
    l.made.items

abbrev pub invariant-loop-view : goal.invariant-loop-view
invariant-loop-view l = AddsReceipts l.fn.self l.self (flat_map receipts_in (take l.view-index l.sessions)) l.made.items
