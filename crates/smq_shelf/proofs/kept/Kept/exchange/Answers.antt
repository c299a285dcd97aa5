use Rattle.std.proofs.Common.{◌≡◌, ap, sym, ◌∙◌, ◌||◌}
use Rattle.std.specs.Prelude.{is_some, if◌then◌else◌}
use Rattle.std.specs.Map.{lookup}
use Rattle.std.specs.BTreeMap.{is_at, insert_entry}
use Rattle.smq_shelf.specs.Places.{content_of}
use Rattle.smq_shelf.specs.Values.{with_value}
use Rattle.smq_shelf.specs.within.Undoing.{flatten}
use Rattle.smq_shelf.proofs.Altered.{Alters, before-altered, undone-altered, pasts-altered, content_of-altered, IsKeptBy-altered}
use Rattle.smq_shelf.proofs.Changes.{lookup-content_of}
use Rattle.smq_shelf.proofs.kept.Kept.exchange.Goals as goal

-- what `alter` did
alters : (g : _) (c : goal.After-value_before g)
    → Alters g.met.K.Ord.total c.args.key c.in_ok-had.had c.in_ok-had.has (g.C.Change.after c.args.change.now (flatten (lookup (is_at (g.K.Ord.cmp c.args.key)) c.self.inside.shelf.entries)))
    c.self.inside.log.items c.self.inside.shelf.entries c.alter.new.log.items c.alter.new.self.entries
alters g c = record {
  was = c.in_ok-had.ensures.had;
  is = c.in_ok-had.ensures.has;
  entries = c.in_ok-had.ensures.entries;
  logged = c.in_ok-had.ensures.log;
  ordered = c.in_ok-had.ensures.ordered;
  kept = c.self.invariant.kept;
}

-- the value that was there is what the place had
before : (g : _) (c : goal.After-value_before g) → flatten (lookup (is_at (g.K.Ord.cmp c.args.key)) c.self.inside.shelf.entries) ≡ c.value_before.result
before g c = sym (before-altered g.met.K.Ord.total (alters g c) c.value_before.result c.value_before.ensures.had c.value_before.ensures.none)

-- whether there is something to take back, by that value
logged : (g : _) (c : goal.After-value_before g)
    → (c.in_ok-had.had || c.in_ok-had.has) ≡ (is_some c.value_before.result || is_some (g.C.Change.after c.args.change.now c.value_before.result))
logged g c = (λ i. c.in_ok-had.ensures.had i || c.in_ok-had.ensures.has i) ∙ ap (λ v. is_some v || is_some (g.C.Change.after c.args.change.now v)) (before g c)

pub invariant_of-self-2 : goal.invariant_of-self-2
invariant_of-self-2 g c =
    IsKeptBy-altered g.met.K.Ord.total (alters g c) c.self.inside.most_vacant _ c.most_vacant_after-self-inside.ensures.before c.most_vacant_after-self-inside.ensures.vacated c.self.invariant

pub returns-clause-before : goal.returns-clause-before
returns-clause-before g c = rw (← c.self.view_is) (sym (before g c) ∙ sym (lookup-content_of g.met.K.Ord.total c.args.key _ c.self.invariant.kept.ordered))

pub returns-clause-content : goal.returns-clause-content
returns-clause-content g c =
    rw (← c.self.view_is)
    (content_of-altered g.met.K.Ord.total (alters g c) g.met.K.ShelfKey.exact
    ∙ ap (λ before. with_value g.K.Ord.cmp c.args.key (g.C.Change.after c.args.change.now before) (content_of c.self.inside.shelf.entries)) (before g c))

pub returns-clause-places : goal.returns-clause-places
returns-clause-places g c =
    rw (← c.self.view_is)
    (c.in_ok-had.ensures.entries
    ∙ (λ i. if logged g c i then insert_entry g.K.Ord.cmp c.self.inside.shelf.entries c.args.key (g.C.Change.after c.args.change.now (before g c i)) else c.self.inside.shelf.entries))

pub returns-clause-past : goal.returns-clause-past
returns-clause-past g c = rw (← c.self.view_is, ← logged g c) (pasts-altered g.met.K.Ord.total (alters g c))

pub returns-clause-settled : goal.returns-clause-settled
returns-clause-settled g c = rw (← c.self.view_is) (ap content_of (undone-altered g.met.K.Ord.total (alters g c)))
