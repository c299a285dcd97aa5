use Rattle.std.proofs.Common.{◌≡◌, None, sym, ap, ◌∙◌}
use Rattle.std.specs.FinMap.{get, insert}
use Rattle.smq_tally.specs.Tables.{tables_of}
use Rattle.smq_tally.specs.Tally.{TallyValue}
use Rattle.smq_tally.specs.within.Kept.{facts_in, known_of}
use Rattle.smq_tally.proofs.Held.{has-room, kept_put, shown-added, still}
use Rattle.smq_tally.proofs.tally.Tally.add.Goals as goal

pub add_fact-requires : goal.add_fact-requires
add_fact-requires c = record {
  room =
      has-room c.self.inside.facts.content c.self.inside.facts.places c.place_count.result c.self.inside.tables.notes
      c.self.inside.tables.shown c.self.invariant.now
      c.place_count.ensures.ordered c.place_count.ensures.content c.place_count.ensures.count c.place_count.ensures.small;
}

-- the facts with the new one
put : (c : goal.In_default) → facts_in c.set.new.self.content ≡ insert (facts_in c.self.inside.facts.content) c.args.fact.place c.args.fact
put c =
    kept_put c.self.inside.facts.content c.set.new.self.content c.args.fact c.in_ok-kept.kept (c.in_ok-kept.ensures ∙ ap known_of c.copy.ensures) c.in_ok-set.ensures.content

pub invariant_of-self-in_default : goal.invariant_of-self-in_default
invariant_of-self-in_default c =
    let absent : get (facts_in c.self.inside.facts.content) c.args.fact.place ≡ None = ap (λ (t : TallyValue). get t.facts c.args.fact.place)
    c.self.view_is ∙ c.requires.absent in
    still c.self.invariant
    (shown-added (facts_in c.self.inside.facts.content) c.self.inside.tables.notes c.self.invariant.now c.args.fact absent (put c) c.in_default.ensures.ok
    ∙ ap (tables_of (facts_in c.set.new.self.content)) (sym c.in_default.ensures.notes))
    (ap facts_in c.set.ensures.settled) c.add_fact.ensures.settled_notes c.add_fact.ensures.settled
