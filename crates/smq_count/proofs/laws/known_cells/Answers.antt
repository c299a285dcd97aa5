use Rattle.std.proofs.Common.{refl, rules}
use Rattle.std.specs.Fmt.{digits}
use Rattle.std.specs.List.Sorted.{IsStrictlySortedBy}
use Rattle.smq_count.proofs.laws.known_cells.Goals as goal

pub returns-clause-cells : goal.returns-clause-cells
unfolding digits
returns-clause-cells c = record {
  minute = refl;
  hour = refl;
  day = refl;
  last_of_minute = refl;
  session = refl;
  outcome = refl;
  no_route = refl;
  source = refl;
  ton = refl;
  prefix = refl;
  nothing = refl;
}

pub returns-clause-order : goal.returns-clause-order
unfolding IsStrictlySortedBy
returns-clause-order c = search rules
