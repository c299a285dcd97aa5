use Rattle.std.proofs.Common.{◌≡◌, List, Option, sym, ap, subst, ◌∙◌, arith}
use Rattle.std.specs.Prelude.{count_by}
use Rattle.std.specs.FinMap.{get}
use Rattle.smq_kit.specs.LinkKeys.{same_key}
use Rattle.smq_kit.specs.declared.link_key.LinkKey.{LinkKey}
use Rattle.smq_kit.specs.declared.names.SessionId.{SessionId}
use Rattle.smq_kit.specs.Replies.{first_of}
use Rattle.smq_present.specs.declared.present.session.Session.{Session}
use Rattle.smq_present.specs.declared.present.edit.Edit.TheVariants.{Append}
use Rattle.smq_present.specs.join.Keyed.{grouping_of}
use Rattle.smq_present.specs.present.Present.{PresentValue, session_of}
use Rattle.smq_present.specs.present.Replies.{append_refusals, reply}
use Rattle.smq_present.specs.present.Steps.{change, session_after}
use Rattle.smq_book.specs.index.Held.{Holding, held_now}
use Rattle.smq_book.specs.index.Kept.{IsKept}
use Rattle.smq_book.specs.index.Pairs.{pairs_now, pairs_pending, pairs_settled}
use Rattle.smq_book.specs.index.Touches.{HasNoneVacant, pairs_cost}
use Rattle.smq_present.proofs.lemmas.present.RefusedBatches.{in-step}
use Rattle.smq_book.proofs.lemmas.index.Bounds.{append-bound}
use Rattle.smq_book.proofs.lemmas.index.KeptPairs.{as-was, kept-settled, none-pending, pairs-put, unmade}
use Rattle.smq_book.proofs.lemmas.index.Routed.{made}
use Rattle.smq_book.proofs.edits.append.append.Goals as goal

pub put_batch_in_step-requires : goal.put_batch_in_step-requires
put_batch_in_step-requires c =
    let p = c.args.present.now in
    let batch = c.args.batch in
    record {
      in_step = in-step (session_of p batch.session.0) batch (ap (λ (s : Option Session). first_of (append_refusals s batch))
          (ap (λ (m : SessionId). session_of p m.0) (sym c.session-number.ensures) ∙ sym c.session-found.ensures) ∙ sym c.append_refusal.ensures ∙ c.in_default.is);
    }

pub returns-clause-kept : goal.returns-clause-kept
returns-clause-kept c =
    let p = c.args.present.now in
    let batch = c.args.batch in
    let n = batch.session.0 in
    let number_is : c.session-number.result.0 ≡ n = ap (λ (s : SessionId). s.0) c.session-number.ensures in
    let k = c.settle-2.new.self in
    let said = c.append_said.ensures in
    subst (λ (q : PresentValue). IsKept q c.settle.new.self k) (sym (made (reply p (Append batch)) _ _ _ c.in-Ok-put_batch_in_step.ensures))
    (kept-settled (change p (Append batch)) c.settle.new.self k (held_now c.append_said.new.index) c.settle.ensures.held c.settle.ensures.settled
    c.in-Ok.ensures.held c.in-Ok.ensures.traffic
    (pairs-put n (pairs_now c.args.pairings.now) (pairs_now k) p.sessions
    (λ other apart. c.settle-2.ensures.now other ∙ said.other_pairs other apart) c.requires.kept.pairs (session_after (get p.sessions n) batch)
    (c.settle-2.ensures.now n ∙ c.in-Ok.ensures.pairs))
    (pairs-put n (pairs_settled c.args.pairings.now) (pairs_settled k) p.sessions
    (λ other apart. c.settle-2.ensures.others other (λ same. apart (same ∙ number_is)) ∙ said.settled_pairs other) c.requires.kept.settled_pairs
    (session_after (get p.sessions n) batch)
    (ap (pairs_settled k) (sym number_is) ∙ c.settle-2.ensures.settled ∙ ap (pairs_now c.append_said.new.pairings) number_is ∙ c.in-Ok.ensures.pairs))
    c.settle.ensures.pending
    (none-pending n (pairs_pending c.args.pairings.now) (pairs_pending k) (ap (pairs_pending k) (sym number_is) ∙ c.settle-2.ensures.pending)
    (λ other apart. c.settle-2.ensures.other_pending other (λ same. apart (same ∙ number_is)) ∙ said.other_pending other apart)
    c.requires.kept.pending_pairs))

pub returns-in_default-put_batch_in_step-clause-kept : goal.returns-in_default-put_batch_in_step-clause-kept
returns-in_default-put_batch_in_step-clause-kept c =
    let p = c.args.present.now in
    let batch = c.args.batch in
    let n = batch.session.0 in
    let number_is : c.session-number.result.0 ≡ n = ap (λ (s : SessionId). s.0) c.session-number.ensures in
    let i = c.undo-in_default-put_batch_in_step.new.index in
    let k = c.undo-in_default-put_batch_in_step.new.pairings in
    let back = c.undo-in_default-put_batch_in_step.ensures in
    let said = c.append_said.ensures in
    let kept = c.requires.kept in
    subst (λ (q : PresentValue). IsKept q i k)
    (sym (unmade _ (reply p (Append batch)) c.in_default-put_batch_in_step.field-0 _ _ c.in_default-put_batch_in_step.ensures))
    (kept-settled p i k (held_now c.args.index.now)
    (back.held ∙ said.settled ∙ kept.settled) (back.settled ∙ said.settled ∙ kept.settled) kept.held kept.traffic
    (λ number.
    as-was n (pairs_now c.args.pairings.now) (pairs_now k)
    (ap (pairs_now k) (sym number_is) ∙ back.pairs ∙ said.settled_pairs c.session-number.result.0
    ∙ ap (pairs_settled c.args.pairings.now) number_is ∙ kept.settled_pairs n ∙ sym (kept.pairs n))
    (λ other apart. back.other_pairs other (λ same. apart (same ∙ number_is)) ∙ said.other_pairs other apart) number
    ∙ kept.pairs number)
    (λ number. back.settled_pairs number ∙ said.settled_pairs number ∙ kept.settled_pairs number)
    back.pending
    (none-pending n (pairs_pending c.args.pairings.now) (pairs_pending k)
    (ap (pairs_pending k) (sym number_is) ∙ back.pending_pairs)
    (λ other apart. back.other_pending other (λ same. apart (same ∙ number_is)) ∙ said.other_pending other apart)
    kept.pending_pairs))

pub returns-clause-touches : goal.returns-clause-touches
returns-clause-touches c =
    let p = c.args.present.now in
    let batch = c.args.batch in
    let n = batch.session.0 in
    let free = (ap (λ (s : Option Session). first_of (append_refusals s batch))
    (ap (λ (m : SessionId). session_of p m.0) (sym c.session-number.ensures) ∙ sym c.session-found.ensures) ∙ sym c.append_refusal.ensures ∙ c.in_default.is) in
    let full : HasNoneVacant c.args.index.now.groups =
    record { each = λ k. ap (λ (vacant : List LinkKey). count_by (same_key k) vacant) c.requires.kept.pending.vacant } in
    let sum = c.in-Ok.ensures.touches full in
    let none = c.requires.kept.pending_pairs n in
    let members = ap (λ (h : Holding). h.members) c.in-Ok.ensures.held.held ∙ ap (grouping_of p.settings) c.in-Ok.ensures.traffic in
    let bound = append-bound p batch c.append_said.new.index.groups.members (pairs_now c.append_said.new.pairings n) free
    (in-step (get p.sessions n) batch free) members c.in-Ok.ensures.pairs in
    let settled = ap (λ (s : SessionId). pairs_cost c.append_said.new.pairings s.0) c.session-number.ensures in
    omega (arith, sum, none, bound, settled, c.settle.ensures.touches, c.settle-2.ensures.touches)
