use Rattle.std.proofs.Common.{ap, ◌∙◌}
use Rattle.smq_pair.specs.Paired.{PairedValue}
use Rattle.smq_pair.specs.within.Kept.{entries_in}
use Rattle.smq_pair.proofs.Searched.{found-at, none-at}
use Rattle.smq_pair.proofs.pairing.Pairing.pair_of.Goals as goal

pub returns-in_err-at-clause-found : goal.returns-in_err-at-clause-found
returns-in_err-at-clause-found c =
    c.from_residual.ensures
    ∙ none-at (entries_in c.self.inside.streams) c.args.self.now.pdus c.args.place c.self.invariant.0.in_order
    (ap (λ (v : PairedValue). v.pdus) c.self.view_is) c.in_err-at.ensures

pub returns-clause-found : goal.returns-clause-found
returns-clause-found c =
    c.pair_in.ensures
    ∙ found-at _ (entries_in c.self.inside.streams) c.args.self.now.pdus c.args.place c.in_ok-at.field-0
    c.self.invariant.0 (ap (λ (v : PairedValue). v.pdus) c.self.view_is) c.in_ok-at.ensures
