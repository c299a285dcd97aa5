use Rattle.std.proofs.Common.{rules}
use Rattle.smq_present.proofs.join.fact.fact_from_parts.Goals as goal

pub returns-clause-value : goal.returns-clause-value
returns-clause-value c = λ standing shared.
    let outcome = c.outcome-outcome.ensures standing c.args.route shared in
    search rules
