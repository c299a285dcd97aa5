use Rattle.std.proofs.Common.{refl, sym, ap, ◌∙◌}
use Rattle.std.proofs.lemmas.Result.{on_ok_weaker}
use Rattle.std.specs.List.{list_any}
use Rattle.std.specs.FinMap.{contains_key}
use Rattle.smq_tally.specs.Lists.{listings_of_fact}
use Rattle.smq_tally.specs.Tables.{tables_of}
use Rattle.smq_tally.specs.within.Kept.{facts_in}
use Rattle.smq_tally.proofs.Held.{has-room, kept_put, shown-added, shown-replaced, stands}
use Rattle.smq_tally.proofs.tally.put.Goals as goal

pub replace_fact-requires-clause-room : goal.replace_fact-requires-clause-room
replace_fact-requires-clause-room c =
    has-room c.args.facts.now.content c.args.facts.now.places c.place_count.result c.args.tables.now.notes c.args.tables.now.shown
    c.requires.shown c.place_count.ensures.ordered c.place_count.ensures.content c.place_count.ensures.count c.place_count.ensures.small

pub add_fact-requires : goal.add_fact-requires
add_fact-requires c = record {
  room =
      has-room c.args.facts.now.content c.args.facts.now.places c.place_count.result c.args.tables.now.notes c.args.tables.now.shown
      c.requires.shown c.place_count.ensures.ordered c.place_count.ensures.content c.place_count.ensures.count c.place_count.ensures.small;
}

pub returns-in_ok-of-in-Some-clause-shown : goal.returns-in_ok-of-in-Some-clause-shown
returns-in_ok-of-in-Some-clause-shown c =
    let stays = list_any (contains_key c.args.tables.now.notes) (listings_of_fact c.in-Some.before) in
    on_ok_weaker c.set.result
    (λ set. shown-replaced (facts_in c.args.facts.now.content) c.args.tables.now.notes c.requires.shown c.in-Some.before c.args.fact stays
    (stands c.args.facts.now.content) (sym c.requires.there ∙ c.in-Some.is) refl
    (kept_put c.args.facts.now.content c.set.new.self.content c.args.fact c.in_ok-of-in-Some.field-0 c.in_ok-of-in-Some.ensures set)
    c.in_ok-replace_fact-in-Some.ensures.ok
    ∙ ap (tables_of (facts_in c.set.new.self.content)) (sym c.in_ok-replace_fact-in-Some.ensures.notes)) c.set.ensures.content

pub returns-in_ok-of-in-None-clause-shown : goal.returns-in_ok-of-in-None-clause-shown
returns-in_ok-of-in-None-clause-shown c =
    on_ok_weaker c.set-in-None.result
    (λ set. shown-added (facts_in c.args.facts.now.content) c.args.tables.now.notes c.requires.shown c.args.fact (sym c.requires.there ∙ c.in-None.is)
    (kept_put c.args.facts.now.content c.set-in-None.new.self.content c.args.fact c.in_ok-of-in-None.field-0 c.in_ok-of-in-None.ensures set)
    c.in_ok-add_fact-in-None.ensures.ok
    ∙ ap (tables_of (facts_in c.set-in-None.new.self.content)) (sym c.in_ok-add_fact-in-None.ensures.notes)) c.set-in-None.ensures.content
