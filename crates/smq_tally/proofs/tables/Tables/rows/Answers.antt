use Rattle.std.proofs.Common.{ap, ◌∙◌}
use Rattle.smq_tally.specs.Tables.{TablesKept}
use Rattle.smq_tally.specs.within.RowCounts.{shown_among}
use Rattle.smq_tally.proofs.Runs.{run-next, run-end}
use Rattle.smq_tally.proofs.ViewRanges.{view_parts, view-whole}
use Rattle.smq_tally.proofs.tables.Tables.rows.Goals as goal

pub returns-in-Some : goal.returns-in-Some
returns-in-Some c =
    c.of.ensures
    ∙ ap shown_among (c.range.ensures.between ∙ run-next view_parts c.args.view c.in-Some.next _ _ c.first_in-first.ensures
    c.first_in.ensures c.in-Some.ensures c.self.inside.counts.content)
    ∙ view-whole c.args.self.now.shown c.args.view c.self.inside.counts.content (ap (λ (t : TablesKept). t.shown.counts) c.self.view_is)
    c.range.ensures.ordered

pub returns-in-None : goal.returns-in-None
returns-in-None c =
    c.of-in-None.ensures
    ∙ ap shown_among (c.range_from.ensures.between ∙ run-end view_parts c.args.view _ c.first_in-first.ensures c.in-None.ensures
    c.self.inside.counts.content)
    ∙ view-whole c.args.self.now.shown c.args.view c.self.inside.counts.content (ap (λ (t : TablesKept). t.shown.counts) c.self.view_is)
    c.range_from.ensures.ordered
