use Rattle.smq_shelf.proofs.Altered.{changed-there}
use Rattle.smq_shelf.proofs.logged.Shelf+K+Option+V.alter.Goals as goal

pub returns-in-Some-clause-entries : goal.returns-in-Some-clause-entries
returns-in-Some-clause-entries g c =
    rw (← c.self.view_is)
    (changed-there g.met.K.Ord.total (g.C.Change.after c.args.change.now) c.args.key _ _ _ _ _ _ c.get_mut.ensures.ordered c.in-Some.ensures.value
    c.change_at.ensures.had c.change_at.ensures.has c.change_at.ensures.new (c.get_mut.follows.holds c.change_at.new.place).0)
