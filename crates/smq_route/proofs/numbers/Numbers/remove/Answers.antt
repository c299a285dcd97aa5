use Rattle.std.proofs.Common.{ap, ◌∙◌, arith}
use Rattle.std.specs.FinMap.{remove}
use Rattle.smq_shelf.specs.Keeping.{Keeping}
use Rattle.smq_route.specs.declared.numbers.NumberAt.{NumberAt}
use Rattle.smq_route.proofs.NumberLemmas.{number-taken, share, vacant-taken}
use Rattle.smq_route.proofs.numbers.Numbers.remove.Goals as goal

pub returns-clause-ok : goal.returns-clause-ok
returns-clause-ok c =
    number-taken c.self.inside.kept.content c.remove.new.self.content c.new.result c.in_ok-remove.ensures.ordered c.in_ok-remove.ensures.content
    ∙ (λ i. remove (c.self.view_is i).numbers (c.new.ensures i))

pub returns-clause-vacant : goal.returns-clause-vacant
returns-clause-vacant c = λ prefix.
    let more = vacant-taken prefix c.new.result c.self.inside.kept.content c.self.inside.kept.places c.remove.new.self.places
    c.in_ok-remove.ensures.places
    (λ none. ap (λ (k : Keeping NumberAt (Unit {0})). k.places) (c.in_ok-remove.ensures.absent none)) in
    let number = ap (λ (k : NumberAt). share prefix k.number) c.new.ensures in
    rw (← c.self.view_is) (omega (arith, more, number))
