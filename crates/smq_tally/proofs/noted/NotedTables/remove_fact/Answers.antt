use Rattle.std.proofs.Common.{ap, ◌∙◌}
use Rattle.std.specs.List.{list_any}
use Rattle.std.specs.FinMap.{contains_key}
use Rattle.smq_tally.specs.Lists.{listings_of_fact}
use Rattle.smq_tally.specs.within.Counting.{one_less}
use Rattle.smq_tally.specs.within.Kept.{places_in}
use Rattle.smq_tally.specs.within.Noted.{NotedValue}
use Rattle.smq_tally.proofs.NotesAmong.{fact-noted}
use Rattle.smq_tally.proofs.noted.NotedTables.remove_fact.Goals as goal

pub returns-clause-ok : goal.returns-clause-ok
returns-clause-ok c =
    let noted = c.has_listing-is_noted.ensures ∙ fact-noted (places_in c.self.inside.apart.content) c.self.inside.tables.shown.places c.args.fact.now in
    c.in_ok-remove_fact.ensures.ok
    ∙ ap (one_less c.self.inside.tables.shown c.args.fact.now) noted
    ∙ ap (λ (t : NotedValue). one_less t.shown c.args.fact.now (list_any (contains_key t.notes) (listings_of_fact c.args.fact.now))) c.self.view_is
