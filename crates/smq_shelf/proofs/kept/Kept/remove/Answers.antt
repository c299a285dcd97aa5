use Rattle.std.proofs.Common.{None, refl, ap, sym, ◌∙◌}
use Rattle.std.specs.Prelude.{is_some}
use Rattle.std.proofs.lemmas.Bool.{false≢true}
use Rattle.smq_shelf.specs.Places.{content_of}
use Rattle.smq_shelf.proofs.Changes.{Puts, undone-put, pasts-put, content_of-put_none, content_of-absent, content_ordered, lookup-content_of}
use Rattle.smq_shelf.proofs.Vacancies.{IsKeptBy-take}
use Rattle.smq_shelf.proofs.kept.Kept.remove.Goals as goal

-- what `vacate` did where the key had a value
puts : (g : _) (c : goal.After-self-1 g)
    → Puts g.met.K.Ord.total c.args.key.now None c.self.inside.log.items c.self.inside.shelf.entries c.vacate.new.log.items c.vacate.new.shelf.entries
puts g c = record {
  entries = rw c.if-branch.true at c.in_ok-vacate.ensures.entries;
  ordered = c.in_ok-vacate.ensures.ordered;
  logged = rw c.if-branch.true at c.in_ok-vacate.ensures.log;
  filled = λ none. absurd (false≢true (sym none ∙ sym c.in_ok-vacate.ensures.had ∙ c.if-branch.true));
  kept = c.self.invariant.kept;
}

pub invariant_of-self-then-branch : goal.invariant_of-self-then-branch
invariant_of-self-then-branch g c =
    IsKeptBy-take g.met.K.Ord.total c.self.inside.most_vacant _ (puts g c) c.most_vacant_after-self-inside.ensures.before (c.most_vacant_after-self-inside.ensures.vacated refl) c.self.invariant

pub returns-then-branch-clause-content : goal.returns-then-branch-clause-content
returns-then-branch-clause-content g c = rw (← c.self.view_is) (content_of-put_none g.met.K.Ord.total (puts g c))

pub returns-then-branch-clause-past : goal.returns-then-branch-clause-past
returns-then-branch-clause-past g c = rw (← c.self.view_is) (λ there. pasts-put g.met.K.Ord.total (puts g c))

pub returns-then-branch-clause-absent : goal.returns-then-branch-clause-absent
returns-then-branch-clause-absent g c =
    rw (← c.self.view_is)
    (λ none. absurd (false≢true (ap is_some (sym none) ∙ ap is_some (lookup-content_of g.met.K.Ord.total c.args.key.now _ c.self.invariant.kept.ordered) ∙ sym c.in_ok-vacate.ensures.had ∙ c.if-branch.true)))

pub returns-then-branch-clause-settled : goal.returns-then-branch-clause-settled
returns-then-branch-clause-settled g c = rw (← c.self.view_is) (ap content_of (undone-put g.met.K.Ord.total (puts g c)))

pub returns-then-branch-clause-ordered : goal.returns-then-branch-clause-ordered
returns-then-branch-clause-ordered g c = rw (← c.self.view_is) (content_ordered g.met.K.Ord.total _ c.self.invariant.kept.ordered)

pub returns-else-branch-clause-content : goal.returns-else-branch-clause-content
returns-else-branch-clause-content g c =
    rw (← c.self.view_is)
    (content_of-absent g.met.K.Ord.total c.args.key.now _ _ (rw c.if-branch.false at c.in_ok-vacate.ensures.entries) c.self.invariant.kept.ordered (sym c.in_ok-vacate.ensures.had ∙ c.if-branch.false))

pub returns-else-branch-clause-places : goal.returns-else-branch-clause-places
returns-else-branch-clause-places g c =
    rw (← c.self.view_is)
    (λ there. absurd (false≢true (sym c.if-branch.false ∙ c.in_ok-vacate.ensures.had ∙ ap is_some (sym (lookup-content_of g.met.K.Ord.total c.args.key.now _ c.self.invariant.kept.ordered)) ∙ there)))

pub returns-else-branch-clause-past : goal.returns-else-branch-clause-past
returns-else-branch-clause-past g c =
    rw (← c.self.view_is)
    (λ there. absurd (false≢true (sym c.if-branch.false ∙ c.in_ok-vacate.ensures.had ∙ ap is_some (sym (lookup-content_of g.met.K.Ord.total c.args.key.now _ c.self.invariant.kept.ordered)) ∙ there)))

pub returns-else-branch-clause-ordered : goal.returns-else-branch-clause-ordered
returns-else-branch-clause-ordered g c = rw (← c.self.view_is) (content_ordered g.met.K.Ord.total _ c.self.invariant.kept.ordered)
