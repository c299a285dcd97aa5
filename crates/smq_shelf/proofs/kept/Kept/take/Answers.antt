use Rattle.std.proofs.Common.{◌≡◌, None, refl, ap, sym, ◌∙◌}
use Rattle.std.specs.Prelude.{is_some}
use Rattle.std.specs.Map.{lookup}
use Rattle.std.specs.BTreeMap.{is_at}
use Rattle.std.proofs.lemmas.Bool.{false≢true}
use Rattle.smq_shelf.specs.Places.{content_of}
use Rattle.smq_shelf.specs.within.Undoing.{flatten}
use Rattle.smq_shelf.proofs.Altered.{none_there}
use Rattle.smq_shelf.proofs.Changes.{Puts, undone-put, pasts-put, content_of-put_none, content_of-absent, content_ordered, lookup-content_of}
use Rattle.smq_shelf.proofs.Vacancies.{IsKeptBy-take}
use Rattle.smq_shelf.proofs.kept.Kept.take.Goals as goal

-- what `vacate` did where the key had a value
puts : (g : _) (c : goal.After-last_value g)
    → Puts g.met.K.Ord.total c.args.key.now None c.self.inside.log.items c.self.inside.shelf.entries c.vacate.new.log.items c.vacate.new.shelf.entries
puts g c = record {
  entries = rw c.if-branch.true at c.in_ok-vacate.ensures.entries;
  ordered = c.in_ok-vacate.ensures.ordered;
  logged = rw c.if-branch.true at c.in_ok-vacate.ensures.log;
  filled = λ none. absurd (false≢true (sym none ∙ sym c.in_ok-vacate.ensures.had ∙ c.if-branch.true));
  kept = c.self.invariant.kept;
}

-- the value that it took out
taken : (g : _) (c : goal.After-last_value g) → c.last_value.result ≡ flatten (lookup (is_at (g.K.Ord.cmp c.args.key.now)) c.self.inside.shelf.entries)
taken g c = c.last_value.ensures _ _ _ (puts g c).logged

pub returns-in_err-vacate-clause-ordered : goal.returns-in_err-vacate-clause-ordered
returns-in_err-vacate-clause-ordered g c = rw (← c.self.view_is) (content_ordered g.met.K.Ord.total _ c.self.invariant.kept.ordered)

pub invariant_of-self-then-branch : goal.invariant_of-self-then-branch
invariant_of-self-then-branch g c =
    IsKeptBy-take g.met.K.Ord.total c.self.inside.most_vacant _ (puts g c) c.most_vacant_after-self-inside.ensures.before (c.most_vacant_after-self-inside.ensures.vacated refl) c.self.invariant

pub returns-then-branch-clause-value : goal.returns-then-branch-clause-value
returns-then-branch-clause-value g c =
    rw (← c.self.view_is) (taken g c ∙ sym (lookup-content_of g.met.K.Ord.total c.args.key.now _ c.self.invariant.kept.ordered))

pub returns-then-branch-clause-content : goal.returns-then-branch-clause-content
returns-then-branch-clause-content g c = rw (← c.self.view_is) (content_of-put_none g.met.K.Ord.total (puts g c))

pub returns-then-branch-clause-past : goal.returns-then-branch-clause-past
returns-then-branch-clause-past g c =
    let had = ap is_some (taken g c) ∙ sym c.in_ok-vacate.ensures.had ∙ c.if-branch.true in
    rw (← c.self.view_is) (rw had (pasts-put g.met.K.Ord.total (puts g c)))

pub returns-then-branch-clause-settled : goal.returns-then-branch-clause-settled
returns-then-branch-clause-settled g c = rw (← c.self.view_is) (ap content_of (undone-put g.met.K.Ord.total (puts g c)))

pub returns-then-branch-clause-ordered : goal.returns-then-branch-clause-ordered
returns-then-branch-clause-ordered g c = rw (← c.self.view_is) (content_ordered g.met.K.Ord.total _ c.self.invariant.kept.ordered)

pub returns-clause-value : goal.returns-clause-value
returns-clause-value g c =
    rw (← c.self.view_is)
    (sym (lookup-content_of g.met.K.Ord.total c.args.key.now _ c.self.invariant.kept.ordered ∙ none_there _ (sym c.in_ok-vacate.ensures.had ∙ c.if-branch.false)))

pub returns-clause-content : goal.returns-clause-content
returns-clause-content g c =
    rw (← c.self.view_is)
    (content_of-absent g.met.K.Ord.total c.args.key.now _ _ (rw c.if-branch.false at c.in_ok-vacate.ensures.entries) c.self.invariant.kept.ordered (sym c.in_ok-vacate.ensures.had ∙ c.if-branch.false))

pub returns-clause-ordered : goal.returns-clause-ordered
returns-clause-ordered g c = rw (← c.self.view_is) (content_ordered g.met.K.Ord.total _ c.self.invariant.kept.ordered)
