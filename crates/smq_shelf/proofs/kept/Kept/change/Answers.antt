use Rattle.std.proofs.Common.{◌≡◌, ap, sym, ◌∙◌, ◌||◌}
use Rattle.std.specs.Prelude.{is_some, if◌then◌else◌}
use Rattle.std.specs.Map.{lookup}
use Rattle.std.specs.BTreeMap.{is_at, insert_entry}
use Rattle.smq_shelf.specs.Places.{content_of}
use Rattle.smq_shelf.specs.Values.{with_value}
use Rattle.smq_shelf.specs.within.Undoing.{flatten}
use Rattle.smq_shelf.proofs.Altered.{Alters, undone-altered, pasts-altered, content_of-altered, IsKeptBy-altered}
use Rattle.smq_shelf.proofs.Changes.{content_ordered, lookup-content_of}
use Rattle.smq_shelf.proofs.kept.Kept.change.Goals as goal

-- what `alter` did
alters : (g : _) (c : goal.After-self-1 g)
    → Alters g.met.K.Ord.total c.args.key c.in_ok-had.had c.in_ok-had.has (g.C.Change.after c.args.change.now (flatten (lookup (is_at (g.K.Ord.cmp c.args.key)) c.self.inside.shelf.entries)))
    c.self.inside.log.items c.self.inside.shelf.entries c.alter.new.log.items c.alter.new.self.entries
alters g c = record {
  was = c.in_ok-had.ensures.had;
  is = c.in_ok-had.ensures.has;
  entries = c.in_ok-had.ensures.entries;
  logged = c.in_ok-had.ensures.log;
  ordered = c.in_ok-had.ensures.ordered;
  kept = c.self.invariant.kept;
}

-- what the content has at the key is what the place has
before : (g : _) (c : goal.After-self-1 g) → flatten (lookup (is_at (g.K.Ord.cmp c.args.key)) c.self.inside.shelf.entries) ≡ lookup (is_at (g.K.Ord.cmp c.args.key)) (content_of c.self.inside.shelf.entries)
before g c = sym (lookup-content_of g.met.K.Ord.total c.args.key _ c.self.invariant.kept.ordered)

pub returns-in_err-had-clause-ordered : goal.returns-in_err-had-clause-ordered
returns-in_err-had-clause-ordered g c = rw (← c.self.view_is) (content_ordered g.met.K.Ord.total _ c.self.invariant.kept.ordered)

pub invariant_of-self-2 : goal.invariant_of-self-2
invariant_of-self-2 g c =
    IsKeptBy-altered g.met.K.Ord.total (alters g c) c.self.inside.most_vacant _ c.most_vacant_after-self-inside.ensures.before c.most_vacant_after-self-inside.ensures.vacated c.self.invariant

pub returns-clause-logged : goal.returns-clause-logged
returns-clause-logged g c =
    rw (← c.self.view_is)
    (rw (← before g c) (ap (λ b. b || c.in_ok-had.has) c.in_ok-had.ensures.had ∙ ap (λ b. is_some (flatten (lookup (is_at (g.K.Ord.cmp c.args.key)) c.self.inside.shelf.entries)) || b) c.in_ok-had.ensures.has))

pub returns-clause-content : goal.returns-clause-content
returns-clause-content g c =
    rw (← c.self.view_is)
    (content_of-altered g.met.K.Ord.total (alters g c) g.met.K.ShelfKey.exact
    ∙ ap (λ before. with_value g.K.Ord.cmp c.args.key (g.C.Change.after c.args.change.now before) (content_of c.self.inside.shelf.entries)) (before g c))

pub returns-clause-places : goal.returns-clause-places
returns-clause-places g c =
    rw (← c.self.view_is)
    (c.in_ok-had.ensures.entries
    ∙ ap (λ before. if c.in_ok-had.had || c.in_ok-had.has then insert_entry g.K.Ord.cmp c.self.inside.shelf.entries c.args.key (g.C.Change.after c.args.change.now before) else c.self.inside.shelf.entries) (before g c))

pub returns-clause-past : goal.returns-clause-past
returns-clause-past g c = rw (← c.self.view_is) (pasts-altered g.met.K.Ord.total (alters g c))

pub returns-clause-settled : goal.returns-clause-settled
returns-clause-settled g c = rw (← c.self.view_is) (ap content_of (undone-altered g.met.K.Ord.total (alters g c)))

pub returns-clause-ordered : goal.returns-clause-ordered
returns-clause-ordered g c = rw (← c.self.view_is) (content_ordered g.met.K.Ord.total _ c.self.invariant.kept.ordered)
