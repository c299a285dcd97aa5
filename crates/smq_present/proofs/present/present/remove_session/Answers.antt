use Rattle.std.proofs.Common.{◌≡◌, Result, subst, sym}
use Rattle.std.specs.FinMap.{get, remove}
use Rattle.smq_kit.specs.declared.refusal.Refusal.{Refusal}
use Rattle.smq_kit.specs.Replies.{IsReplyInPlace}
use Rattle.smq_present.specs.present.Replies.{no_session}
use Rattle.smq_present.specs.within.InOrder.{sessions_in}
use Rattle.smq_present.proofs.lemmas.present.Appended.{removed, absent}
use Rattle.smq_present.proofs.present.present.remove_session.Goals as goal
use Rattle.smq_present.proofs.present.present.remove_session.Goals.{in-Some, in-None}

pub returns : goal.returns
returns c =
    let old = c.args.sessions.now in
    let new = c.remove.new.self in
    let k = c.args.number in
    let Replied = λ (r : Result Unit Refusal). IsReplyInPlace (no_session (get (sessions_in old) k)) r (sessions_in new
    ≡ remove (sessions_in old) k) (sessions_in new ≡ sessions_in old) in
    elim c.match-remove.branch [
      | in-Some w ↦ subst Replied (sym w.result-is) (removed old.entries new.entries k w.in-Some.field-0 tt w.in-Some.ensures.value
          w.in-Some.ensures.updates.0)
      | in-None w ↦ subst Replied (sym w.result-is) (absent _ old.entries new.entries k w.in-None.ensures.value w.in-None.ensures.unchanged)
    ]
