use Rattle.std.proofs.Common.{◌≡◌, not, true, nat_cmp, subst}
use Rattle.std.specs.BTreeSet.{Updates, contains}
use Rattle.smq_load.specs.declared.link_settings.LinkSettings.{LinkSettings}
use Rattle.smq_load.proofs.DistinctLemmas.{again_at, distinct_more, members_more}
use Rattle.smq_load.proofs.link_settings.are_distinct.Goals as goal

pub returns-then-not-branch : goal.returns-then-not-branch
returns-then-not-branch c =
    let so_far = c.loop-forms.invariant in
    again_at c.args.links.now c.loop-forms.forms-index c.forms-item.result c.loop-forms.numbers c.in_ok-insert.field-0 c.loop-forms-test.true
    so_far.members
    (subst (λ (l : LinkSettings). c.in_ok-insert.field-0 ≡ not (contains nat_cmp c.loop-forms.numbers l.link.0)) c.forms-item.is
    c.in_ok-insert.ensures.added)
    c.if-not-branch.true

pub loop-forms-preserved : goal.loop-forms-preserved
loop-forms-preserved c =
    let so_far = c.loop-forms.invariant in
    record {
      distinct = distinct_more c.args.links.now c.loop-forms.forms-index c.forms-item.result c.loop-forms.numbers c.in_ok-insert.field-0
          c.loop-forms-test.true so_far.distinct so_far.members
          (subst (λ (l : LinkSettings). c.in_ok-insert.field-0 ≡ not (contains nat_cmp c.loop-forms.numbers l.link.0)) c.forms-item.is
          c.in_ok-insert.ensures.added)
          c.if-not-branch.false;
      members = members_more c.args.links.now c.loop-forms.forms-index c.forms-item.result c.loop-forms.numbers c.insert.new.self
          c.loop-forms-test.true so_far.members
          (subst (λ (l : LinkSettings). Updates nat_cmp c.loop-forms.numbers c.insert.new.self l.link.0 true) c.forms-item.is
          c.in_ok-insert.ensures.updates);
    }
