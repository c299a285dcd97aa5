-- The keys so far, and those of the receipts that are left, are what was there and those of all.
use Rattle.std.proofs.Common.{◌≡◌, drop}
use Rattle.std.specs.List.{flat_map}
use Rattle.smq_scratch.specs.Lines.{receipt_lines}
use Rattle.smq_deal.specs.Open.{Reaches, open_receipt}
use Rattle.smq_deal.proofs.open.Open.add_receipts.Given as goal

abbrev pub invariant-loop-line : goal.invariant-loop-line
invariant-loop-line l = record {
  moment : l.self.moment ≡ l.initial.self.moment;
  keys : Reaches l.initial.self.keys l.self.keys
      (flat_map (open_receipt l.present.settings l.initial.self.moment) (drop l.line-index l.line-items))
      (flat_map (open_receipt l.present.settings l.initial.self.moment) (receipt_lines l.present));
}
