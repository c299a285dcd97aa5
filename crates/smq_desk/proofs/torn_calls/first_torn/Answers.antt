use Rattle.std.proofs.Common.{ℕ, List, subst}
use Rattle.std.proofs.lemmas.List.{take_all}
use Rattle.smq_desk.specs.declared.entry.Call.{Call}
use Rattle.smq_desk.proofs.TornCalls.{SoFar, next_call}
use Rattle.smq_desk.proofs.torn_calls.first_torn.Goals as goal

pub loop-call-preserved : goal.loop-call-preserved
loop-call-preserved c =
    rw c.earlier-first.ensures (
    next_call c.args.history.now.entries c.number-holder.result c.calls-calls.result.now c.loop-call.call-index c.call-item.result c.loop-call.first c.torn_at.result
    c.loop-call-test.true c.call-item.is c.loop-call.invariant c.torn_at.ensures
    )

pub returns : goal.returns
returns c =
    let entries = c.args.history.now.entries in
    let first = c.loop-call.first in
    let calls = c.calls-calls.result.now in
    let whole : SoFar entries c.number-holder.result calls first =
    subst (λ (xs : List Call). SoFar entries c.number-holder.result xs first) (take_all c.loop-call.call-index calls c.loop-call-test.false) c.loop-call.invariant in
    subst (λ (xs : List Call). SoFar entries c.args.seat.now.number xs first) c.calls-calls.ensures
    (subst (λ (seat : ℕ). SoFar entries seat calls first) c.number-holder.ensures whole)
