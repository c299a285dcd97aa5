-- What is left to list leads to the same.
use Rattle.std.proofs.Common.{◌≡◌, drop}
use Rattle.smq_tally.specs.within.Counting.{with_listed}
use Rattle.smq_tally.proofs.tables.Tables.list_places.Given as goal

abbrev pub invariant-loop-listed : goal.invariant-loop-listed
invariant-loop-listed l = record {
  counts : l.self.shown.counts ≡ l.initial.self.shown.counts;
  places : with_listed l.self.shown.places (drop l.listed-index l.places) ≡ with_listed l.initial.self.shown.places l.places;
}
