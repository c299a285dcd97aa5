use Rattle.std.proofs.Common.{◌∙◌, sym, arith}
use Rattle.smq_capture.proofs.Watched.{noted, pushed}
use Rattle.smq_capture.proofs.tops.Tops.note.Goals as goal

pub invariant_of-self-2 : goal.invariant_of-self-2
invariant_of-self-2 c =
    rw c.in_ok-push_back.ensures.items
    (pushed c.self.inside.tops.items _ c.self.invariant (omega (arith, c.counted-number.ensures c.self.invariant)))

pub returns-clause-ok : goal.returns-clause-ok
returns-clause-ok c =
    rw (c.in_ok-push_back.ensures.items, c.counted-number.ensures c.self.invariant, ← c.self.view_is)
    (sym (noted c.args.number c.args.before c.args.top c.self.inside.tops.items (omega arith)))
