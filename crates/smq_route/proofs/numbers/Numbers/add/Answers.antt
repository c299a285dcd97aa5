use Rattle.std.proofs.Common.{ap, ◌∙◌, arith}
use Rattle.std.specs.FinMap.{insert}
use Rattle.smq_route.proofs.NumberLemmas.{number-put, vacant, vacant-filled}
use Rattle.smq_route.proofs.numbers.Numbers.add.Goals as goal

pub returns-clause-ok : goal.returns-clause-ok
returns-clause-ok c =
    number-put c.self.inside.kept.content c.set.new.self.content c.new.result tt c.in_ok-set.ensures.content
    ∙ (λ i. insert (c.self.view_is i).numbers (c.new.ensures i) tt)

pub returns-clause-vacant : goal.returns-clause-vacant
returns-clause-vacant c = λ prefix.
    let filled = vacant-filled prefix c.new.result tt c.self.inside.kept.places in
    let same = ap (vacant prefix) c.in_ok-set.ensures.places in
    rw (← c.self.view_is) (omega (arith, filled, same))
