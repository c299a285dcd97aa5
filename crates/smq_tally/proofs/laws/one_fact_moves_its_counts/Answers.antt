use Rattle.std.proofs.Common.{arith}
use Rattle.smq_kit.specs.Maps.{set_at}
use Rattle.smq_kit.proofs.PlaceOrders.{places_total, places_exact}
use Rattle.smq_kit.proofs.MapLemmas.{count-set}
use Rattle.smq_tally.specs.Rows.{count_key, stands_in}
use Rattle.smq_tally.proofs.Tallies.{count-tables}
use Rattle.smq_tally.proofs.laws.one_fact_moves_its_counts.Goals as goal

pub returns : goal.returns
returns c = λ facts notes place fact view value outcome.
    let key = count_key view value outcome in
    let after = count-tables (set_at facts place fact) notes key in
    let before = count-tables facts notes key in
    omega (arith, after, before, count-set places_total places_exact (stands_in key) facts place fact)
