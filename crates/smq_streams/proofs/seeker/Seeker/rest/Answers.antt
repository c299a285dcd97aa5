use Rattle.std.proofs.Common.{◌≡◌, ◌-◌, ℕ, List, drop, ap, sym, ◌∙◌, arith, length-drop}
use Rattle.std.proofs.lemmas.List.{take_all}
use Rattle.smq_streams.proofs.Marks.{values-by}
use Rattle.smq_streams.proofs.seeker.Seeker.rest.Goals as goal

pub returns : goal.returns
returns c =
    rw (← c.self.view_is)
    (take_all _ _ (omega (arith, length-drop c.self.inside.looked c.deref.result.now))
    ∙ ap (λ (o : List ℕ). drop c.self.inside.looked o) c.deref.ensures.value
    ∙ sym (values-by _ _ c.self.invariant.marked))
