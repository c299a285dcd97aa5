use Rattle.std.proofs.Common.{◌≡◌, Option, sym, ap, ◌∙◌}
use Rattle.std.specs.Prelude.{cond, option_to_list}
use Rattle.smq_tally.specs.declared.list.Listed.{Listed}
use Rattle.smq_tally.specs.Lists.{listings_of_fact}
use Rattle.smq_tally.specs.within.Counting.{with_listed, without}
use Rattle.smq_tally.specs.within.Kept.{places_in}
use Rattle.smq_tally.specs.within.Keys.{listed_decides}
use Rattle.smq_tally.proofs.FactEquals.{options}
use Rattle.smq_tally.proofs.ListedFacts.{relisted}
use Rattle.smq_tally.proofs.tables.relist.Goals as goal

pub returns-then-eq-clause-ok : goal.returns-then-eq-clause-ok
returns-then-eq-clause-ok c =
    let places = places_in c.args.places.now.content in
    let same : c.listed.result ≡ c.listed-2.result = (options _ listed_decides c.listed.result c.listed-2.result).0 (sym c.eq.ensures ∙ c.if-eq.true) in
    relisted places (listings_of_fact c.args.before.now) c.args.stays c.requires
    ∙ ap (with_listed (cond c.args.stays places (without places (listings_of_fact c.args.before.now))))
    (sym c.listed.ensures ∙ ap (λ (x : Option Listed). option_to_list x) same ∙ c.listed-2.ensures)
