use Rattle.std.proofs.Common.{sym, ap, ◌∙◌}
use Rattle.smq_count.specs.within.Kept.{kept}
use Rattle.smq_count.proofs.Tallied.{counts-none, tuples_exact, tuples_total}
use Rattle.smq_count.proofs.counted.Counts.new.Goals as goal

pub returns : goal.returns
returns c = λ counting. ap kept c.new.ensures.empty ∙ sym (counts-none tuples_total tuples_exact)
