use Rattle.std.proofs.Common.{Bool, ap, ◌∙◌}
use Rattle.std.specs.List.{list_any}
use Rattle.std.specs.FinMap.{contains_key}
use Rattle.smq_tally.specs.Lists.{listings_of_fact}
use Rattle.smq_tally.specs.within.Counting.{one_more, one_less}
use Rattle.smq_tally.specs.within.Kept.{places_in}
use Rattle.smq_tally.specs.within.Noted.{NotedValue}
use Rattle.smq_tally.proofs.NotesAmong.{fact-noted}
use Rattle.smq_tally.proofs.noted.NotedTables.replace_fact.Goals as goal

pub returns-clause-ok : goal.returns-clause-ok
returns-clause-ok c =
    let noted = c.has_listing-is_noted.ensures ∙ fact-noted (places_in c.self.inside.apart.content) c.self.inside.tables.shown.places c.args.before.now in
    c.in_ok-replace_fact.ensures.ok
    ∙ ap (λ (b : Bool). one_more (one_less c.self.inside.tables.shown c.args.before.now b) c.args.after.now) noted
    ∙ ap (λ (t : NotedValue). one_more (one_less t.shown c.args.before.now
    (list_any (contains_key t.notes) (listings_of_fact c.args.before.now))) c.args.after.now) c.self.view_is
