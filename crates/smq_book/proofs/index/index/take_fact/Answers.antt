use Rattle.std.proofs.Common.{ap, sym, ◌∙◌}
use Rattle.smq_tally.specs.Tally.{Held}
use Rattle.smq_book.proofs.lemmas.index.Stored.{fact-free}
use Rattle.smq_book.proofs.index.index.take_fact.Goals as goal

pub returns-else-has_fact-clause-facts : goal.returns-else-has_fact-clause-facts
returns-else-has_fact-clause-facts c =
    ap (λ (h : Held). h.facts) c.has_fact.ensures.held
    ∙ fact-free c.args.tally.now.facts c.args.place (sym c.has_fact.ensures.value ∙ c.if-has_fact.false)
