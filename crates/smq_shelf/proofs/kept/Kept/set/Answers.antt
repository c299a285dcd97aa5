use Rattle.std.proofs.Common.{Some, ap, refl, arith}
use Rattle.smq_shelf.specs.Places.{content_of}
use Rattle.smq_shelf.proofs.Changes.{Puts, undone-put, pasts-put, content_of-put_some}
use Rattle.smq_shelf.proofs.Vacancies.{IsKeptBy-set}
use Rattle.smq_shelf.proofs.kept.Kept.set.Goals as goal

-- what `put` did
puts : (g : _) (c : goal.In_ok-put g)
    → Puts g.met.K.Ord.total c.args.key (Some c.args.value) c.self.inside.log.items c.self.inside.shelf.entries c.put.new.log.items c.put.new.self.entries
puts g c = record {
  entries = c.in_ok-put.ensures.entries;
  ordered = c.in_ok-put.ensures.ordered;
  logged = c.in_ok-put.ensures.log;
  filled = λ new. refl;
  kept = c.self.invariant.kept;
}

pub invariant_of-self-2 : goal.invariant_of-self-2
invariant_of-self-2 g c = IsKeptBy-set g.met.K.Ord.total c.self.inside.most_vacant c.self.inside.most_vacant (puts g c) (omega arith) c.self.invariant

pub returns-clause-content : goal.returns-clause-content
returns-clause-content g c = rw (← c.self.view_is) (content_of-put_some g.met.K.Ord.total g.met.K.ShelfKey.exact (puts g c))

pub returns-clause-settled : goal.returns-clause-settled
returns-clause-settled g c = rw (← c.self.view_is) (ap content_of (undone-put g.met.K.Ord.total (puts g c)))

pub returns-clause-past : goal.returns-clause-past
returns-clause-past g c = rw (← c.self.view_is) (pasts-put g.met.K.Ord.total (puts g c))
