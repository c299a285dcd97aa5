use Rattle.std.proofs.Common.{◌≡◌, refl, sym, ap, ◌∙◌}
use Rattle.std.specs.FinMap.{remove, contains_key}
use Rattle.smq_shelf.proofs.Steps.{content-back}
use Rattle.smq_tally.specs.Tables.{tables_of}
use Rattle.std.specs.List.{list_any}
use Rattle.smq_tally.specs.Lists.{listings_of_fact}
use Rattle.smq_tally.specs.Tally.{TallyValue}
use Rattle.smq_tally.specs.within.Noted.{NotedValue}
use Rattle.smq_tally.specs.within.Kept.{facts_in}
use Rattle.smq_tally.proofs.Held.{fact_taken, has-entry, still, stands, fact-removed}
use Rattle.smq_tally.proofs.tally.Tally.remove.Goals as goal

-- the facts of before
back : (c : goal.After-take_back) → c.take_back.new.self.content ≡ c.self.inside.facts.content
back c =
    (content-back c.fact_at.new.facts c.remove.new.self c.take_back.new.self c.in_ok-remove.ensures.shown
    (c.in_ok-remove.ensures.past (has-entry c.self.inside.facts.content c.fact_at.new.facts.content c.args.place c.in-Some.fact
    c.fact_at.ensures.content c.in-Some.ensures.value))
    c.take_back.ensures.content c.take_back.ensures.past).0
    ∙ c.fact_at.ensures.content

pub invariant_of-self-in-Err : goal.invariant_of-self-in-Err
invariant_of-self-in-Err c =
    still c.self.invariant
    (ap (λ (t : NotedValue). t.shown) c.in-Err.ensures.err ∙ c.self.invariant.now
    ∙ (λ i. tables_of (facts_in (sym (back c) i)) (sym c.in-Err.ensures.err i).notes))
    (ap facts_in (c.take_back.ensures.settled ∙ c.remove.ensures.settled ∙ c.fact_at.ensures.settled)) c.remove_fact.ensures.settled_notes c.remove_fact.ensures.settled

pub returns-in-Err-clause-err : goal.returns-in-Err-clause-err
returns-in-Err-clause-err c = ap facts_in (back c) ∙ ap (λ (t : TallyValue). t.facts) c.self.view_is

-- the facts without the one
took : (c : goal.In_default-remove_fact) → facts_in c.remove.new.self.content ≡ remove (facts_in c.self.inside.facts.content) c.args.place
took c =
    fact_taken c.fact_at.new.facts.content c.remove.new.self.content c.args.place c.in_ok-remove.ensures.ordered c.in_ok-remove.ensures.content
    ∙ (λ i. remove (facts_in (c.fact_at.ensures.content i)) c.args.place)

pub invariant_of-self-in_default-remove_fact : goal.invariant_of-self-in_default-remove_fact
invariant_of-self-in_default-remove_fact c =
    still c.self.invariant
    (fact-removed c.self.invariant c.args.place c.in-Some.fact
    (list_any (contains_key c.self.inside.tables.notes) (listings_of_fact c.in-Some.fact)) (stands c.self.inside.facts.content) (sym c.in-Some.ensures.value)
    refl (took c) c.in_default-remove_fact.ensures.ok
    ∙ ap (tables_of (facts_in c.remove.new.self.content)) (sym c.in_default-remove_fact.ensures.notes))
    (ap facts_in (c.remove.ensures.settled
    ∙ c.fact_at.ensures.settled)) c.remove_fact.ensures.settled_notes c.remove_fact.ensures.settled
