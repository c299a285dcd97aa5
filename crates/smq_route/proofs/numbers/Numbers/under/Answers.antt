use Rattle.std.proofs.Common.{ap, sym, ◌∙◌, arith, length}
use Rattle.std.specs.Prelude.{IfOk}
use Rattle.std.specs.declared.result.Result.{Result}
use Rattle.std.specs.declared.result.Result.TheVariants.{Ok, Err}
use Rattle.smq_route.specs.Numbers.{places_under}
use Rattle.smq_route.specs.within.NumberKeys.{numbers_in}
use Rattle.smq_route.proofs.NumberWalks.{filled-under, parted}
use Rattle.smq_route.proofs.numbers.Numbers.under.Goals as goal

if_ok : {T E : Type 0} (r : Result T E) (P Q : T → Type 0) → ((t : T) → P t → Q t) → IfOk r P → IfOk r Q
if_ok (Ok t) P Q f h = f t h
if_ok (Err e) P Q f h = tt

pub returns-clause-value : goal.returns-clause-value
returns-clause-value c =
    let prefix = c.of.result in
    let told = filled-under prefix c.self.inside.kept.places c.gather.ensures.ordered ∙ sym (ap (λ es. places_under (numbers_in es) prefix) c.gather.ensures.content) in
    rw (← c.self.view_is, ← c.of.ensures) (if_ok c.gather.result _ _ (λ places is. is ∙ told) c.gather.ensures.value)

pub returns-clause-touches : goal.returns-clause-touches
returns-clause-touches c =
    let prefix = c.of.result in
    let spots = c.self.inside.kept.places in
    let told = ap length (filled-under prefix spots c.gather.ensures.ordered ∙ sym (ap (λ es. places_under (numbers_in es) prefix) c.gather.ensures.content)) in
    let all = parted prefix spots in
    let touches = c.gather.ensures.walked.touches in
    rw (← c.self.view_is, ← c.of.ensures) (omega (arith, told, all, touches))
