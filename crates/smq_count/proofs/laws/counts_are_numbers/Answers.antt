use Rattle.smq_count.proofs.Tallied.{get-counts, tuples_exact, tuples_total}
use Rattle.smq_count.proofs.laws.counts_are_numbers.Goals as goal

pub returns : goal.returns
returns c = get-counts tuples_total tuples_exact
