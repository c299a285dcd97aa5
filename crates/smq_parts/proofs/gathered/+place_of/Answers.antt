use Rattle.std.proofs.Common.{◌∙◌, sym}
use Rattle.smq_parts.proofs.Waits.{at-last, none-of, some-before}
use Rattle.smq_parts.proofs.gathered.+place_of.Goals as goal

pub returns-then-is-clause-found : goal.returns-then-is-clause-found
returns-then-is-clause-found t c =
    at-last c.args.part c.args.waiting.now c.in_ok-last.before.now c.in_ok-last.last.now c.in_ok-last.ensures.cases.0 (sym c.is.ensures ∙ c.if-is.true)

pub returns-clause-found : goal.returns-clause-found
returns-clause-found t c =
    some-before c.args.part c.args.waiting.now c.in_ok-last.before.now c.in_ok-last.last.now c.place_of.result c.in_ok-last.ensures.cases.0
    (sym c.is.ensures ∙ c.if-is.false) c.place_of.ensures.found

pub returns-clause-none : goal.returns-clause-none
returns-clause-none t c =
    none-of c.args.part c.args.waiting.now c.in_ok-last.before.now c.in_ok-last.last.now c.place_of.result c.in_ok-last.ensures.cases.0
    (sym c.is.ensures ∙ c.if-is.false) c.place_of.ensures.none
