use Rattle.std.proofs.Common.{List, refl, subst, sym}
use Rattle.smq_parts.specs.declared.gathered.Waiting.{Waiting}
use Rattle.smq_parts.specs.within.Waiting.{IsAdded, IsAt}
use Rattle.smq_parts.proofs.Waits.{added-at, added-first}
use Rattle.smq_parts.proofs.gathered.add.Goals as goal

pub returns-in_ok-extend_from_slice-in-Some : goal.returns-in_ok-extend_from_slice-in-Some
returns-in_ok-extend_from_slice-in-Some c =
    added-at c.args.part c.args.text.now c.args.waiting.now.items c.in-Some.place c.index_mut.result.now _
    (subst (λ (ws : List Waiting). IsAt c.args.part ws c.in-Some.place) c.as_slice.ensures.value c.in-Some.ensures.found)
    c.index_mut.ensures.value refl c.in_ok-extend_from_slice-in-Some.ensures.items

pub returns-in_ok-push-in-None : goal.returns-in_ok-push-in-None
returns-in_ok-push-in-None c =
    subst (λ (ws : List Waiting). IsAdded c.args.part c.args.text.now c.args.waiting.now.items ws) (sym c.in_ok-push-in-None.ensures.items)
    (added-first c.args.part c.args.text.now c.args.waiting.now.items _ refl c.in_ok-text-in-None.ensures.items)
