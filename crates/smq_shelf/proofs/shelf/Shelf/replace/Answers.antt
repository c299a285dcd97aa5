use Rattle.std.proofs.Common.{◌∙◌, sym, ap}
use Rattle.std.specs.BTreeMap.{BTreeMap}
use Rattle.smq_shelf.proofs.Replacing.{set_value-none}
use Rattle.smq_shelf.proofs.shelf.Shelf.replace.Goals as goal
use Rattle.smq_shelf.proofs.shelf.Shelf.replace.Goals.{in-Some, in-None}

pub returns-clause-entries : goal.returns-clause-entries
returns-clause-entries g c =
    rw (← c.self.view_is)
    (elim c.match-get_mut.branch [
      | in-Some w ↦ rw w.self-inside-is (rw (← w.replace.ensures.after) (c.get_mut.follows.holds w.replace.new.dest).0)
      | in-None w ↦ rw w.self-inside-is (ap (λ (m : BTreeMap g.row.K.Denot g.row.V.Denot). m.entries) c.get_mut.follows.holds-at-none ∙ sym (set_value-none _ _ _ (sym w.in-None.ensures.value)))
    ])
