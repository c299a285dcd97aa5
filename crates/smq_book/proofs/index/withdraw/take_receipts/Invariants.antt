-- What is held is what the PDUs so far leave of it.
use Rattle.std.proofs.Common.{◌≡◌, ◌≤◌, ◌+◌, take}
use Rattle.std.specs.List.{sum_by}
use Rattle.smq_book.specs.index.Held.{held_now, held_settled}
use Rattle.smq_book.specs.index.Pushed.{IsHeldAfter}
use Rattle.smq_book.specs.index.Taken.{receipt_takes}
use Rattle.smq_book.specs.index.Touches.{MembersGo, RisesWithFacts, index_cost, receipt_load}
use Rattle.smq_present.specs.within.Pairs.{from_session}
use Rattle.smq_book.proofs.index.withdraw.take_receipts.Given as goal

abbrev pub invariant-loop-pdu : goal.invariant-loop-pdu
invariant-loop-pdu l = record {
  held : IsHeldAfter l.settings (held_now l.initial.index) (receipt_takes (from_session l.number) (take l.pdu-index l.centre)) (held_now l.index);
  settled : held_settled l.index ≡ held_settled l.initial.index;
  went : MembersGo l.initial.index.groups l.index.groups;
  touches : index_cost l.index ≤ index_cost l.initial.index
      + sum_by (receipt_load l.initial.index.groups (from_session l.number)) (take l.pdu-index l.centre);
  rises : RisesWithFacts l.initial.index l.index;
}
